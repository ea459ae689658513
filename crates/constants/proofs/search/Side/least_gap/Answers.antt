-- The gaps are those of a line against a staircase.
use Rattle.constants.proofs.Sides.{first_up, line_gaps, stairs_gaps}
use Rattle.constants.proofs.search.Side.least_gap.Goals as goal

pub returns-then-lead-eq0 : goal.returns-then-lead-eq0
returns-then-lead-eq0 c = first_up c.args.self.now _ _ _ c.saturating_sub-lead.ensures c.requires.some c.if-lead-eq0.true

pub returns-in-Line : goal.returns-in-Line
returns-in-Line c = line_gaps c.args.self.now _ _ _ c.saturating_sub-lead.ensures c.if-lead-eq0.false c.in-Line.is _ c.line_gap.ensures

pub returns-in-Stairs : goal.returns-in-Stairs
returns-in-Stairs c = stairs_gaps c.args.self.now _ _ _ c.saturating_sub-lead.ensures c.if-lead-eq0.false c.in-Stairs.is _ c.stairs_gap.ensures
