use Rattle.labels.proofs.CueGaps.{gap_there, no_gap}
use Rattle.labels.proofs.cue.has_gap.Goals as goal

pub returns-then-four_bytes-eq-SPACE_AND_ARROW : goal.returns-then-four_bytes-eq-SPACE_AND_ARROW
returns-then-four_bytes-eq-SPACE_AND_ARROW c =
    let a = c.args in
    gap_there a.line.now a.at c.requires c.shared_slice_known-1.given c.four_bytes.ensures.0 c.if-four_bytes-eq-SPACE_AND_ARROW.true

pub returns-else-four_bytes-eq-SPACE_AND_ARROW : goal.returns-else-four_bytes-eq-SPACE_AND_ARROW
returns-else-four_bytes-eq-SPACE_AND_ARROW c =
    let a = c.args in
    no_gap a.line.now a.at c.requires c.four_bytes.ensures.0 c.if-four_bytes-eq-SPACE_AND_ARROW.false
