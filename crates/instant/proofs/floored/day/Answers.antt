-- The quotient toward zero, mended, is the floored one.
use Rattle.numbers.proofs.Mended.{divides, floored, floored_fits}
use Rattle.instant.specs.Units.{per_day}
use Rattle.instant.specs.Instant.{day_of}
use mir.Facts.{to_z-of_z}
use mir.Val.{SFits}
use mir.Syntax.{w64}
use lib.Dec.{lit<}
use mathlib.Core.Path.{sym, ◌∙◌, subst}
use borrow.Author.Rules.{rules}
use Rattle.instant.proofs.floored.day.Goals as goal

pub nonzero_div-result : goal.nonzero_div-result
nonzero_div-result c = (lit< tt, divides c.args.instant per_day c.ranges.instant (lit< tt))

pub nonzero_rem-instant : goal.nonzero_rem-instant
nonzero_rem-instant c = (lit< tt, divides c.args.instant per_day c.ranges.instant (lit< tt))

pub overflow_sub-result : goal.overflow_sub-result
overflow_sub-result c = let s = c.before in
    let g : SFits w64 c.borrowed.result = search rules in
    subst (SFits w64) (sym (floored s.args.instant per_day s.ranges.instant (lit< tt) g c.borrowed.ensures)) (floored_fits s.args.instant per_day s.ranges.instant (lit< tt))

pub returns : goal.returns
unfolding day_of
returns c = let s = c.before in
    let g : SFits w64 c.borrowed.result = search rules in
    to_z-of_z (overflow_sub-result c) ∙ floored s.args.instant per_day s.ranges.instant (lit< tt) g c.borrowed.ensures
