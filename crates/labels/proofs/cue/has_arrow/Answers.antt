use Rattle.labels.proofs.CueGaps.{other_first, other_second, third_tells}
use Rattle.labels.proofs.cue.has_arrow.Goals as goal

pub returns-then-line-at-ne45 : goal.returns-then-line-at-ne45
returns-then-line-at-ne45 c = other_first c.args.line.now c.args.at c.requires c.if-line-at-ne45.true

pub returns-then-line-at-ne45-2 : goal.returns-then-line-at-ne45-2
returns-then-line-at-ne45-2 c =
    let s = c.before.before.before.before in
    other_second s.args.line.now s.args.at s.requires c.if-line-at-ne45.false c.if-line-at-ne45-2.true

pub returns : goal.returns
returns c =
    let s = c.before.before.before.before.before in
    third_tells s.args.line.now s.args.at s.requires c.if-line-at-ne45.false c.if-line-at-ne45-2.false
