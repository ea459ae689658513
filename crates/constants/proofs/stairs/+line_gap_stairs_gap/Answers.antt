-- A call of both is a step of Euclid's algorithm, and the width falls.
use mathlib.Core.Path.{sym, subst, ◌∙◌}
use native.Mathlib.Nat.{mod-lt}
use native.Mathlib.Omega.{arith}
use Rattle.constants.specs.Stairs.{LeastValue}
use Rattle.constants.proofs.Turns.{stairs_turned, turned_sizes, whole_hi, steps_hi, line_one, line_never, line_no_step, line_reached, line_turned, next_sizes}
use Rattle.constants.proofs.stairs.+line_gap_stairs_gap.Goals as goal

pub line_gap-returns-then-end-eq1 : goal.line_gap-returns-then-end-eq1
line_gap-returns-then-end-eq1 t c = line_one c.requires c.if-end-eq1.true

pub line_gap-overflow_mul-whole : goal.line_gap-overflow_mul-whole
line_gap-overflow_mul-whole t c = omega (arith, whole_hi c.requires c.if-end-eq1.false)

pub line_gap-returns-then-slope-whole : goal.line_gap-returns-then-slope-whole
line_gap-returns-then-slope-whole t c = line_never c.requires c.if-slope-whole.true

pub line_gap-overflow_mul-height : goal.line_gap-overflow_mul-height
line_gap-overflow_mul-height t c = omega (arith, steps_hi c.requires)

pub line_gap-overflow_add-lead : goal.line_gap-overflow_add-lead
line_gap-overflow_add-lead t c = omega (arith, steps_hi c.requires)

pub line_gap-returns-then-steps-eq0 : goal.line_gap-returns-then-steps-eq0
line_gap-returns-then-steps-eq0 t c = rw c.saturating_sub-gap.ensures (line_no_step c.requires c.if-slope-whole.false c.if-steps-eq0.true)

pub line_gap-returns-then-gap-eq0 : goal.line_gap-returns-then-gap-eq0
line_gap-returns-then-gap-eq0 t c =
    let e = c.saturating_sub-gap.ensures in
    subst (LeastValue _ _) (sym e ∙ c.if-gap-eq0.true) (line_reached c.requires c.if-slope-whole.false (sym e ∙ c.if-gap-eq0.true))

pub line_gap-stairs_gap-earlier-requires : goal.line_gap-stairs_gap-earlier-requires
line_gap-stairs_gap-earlier-requires t c = (
  omega (arith, mod-lt c.args.rise {m = c.args.width} (omega (arith, c.requires.start_lt)), c.requires),
  next_sizes c.requires c.if-slope-whole.false c.if-steps-eq0.false,
)

pub line_gap-returns : goal.line_gap-returns
line_gap-returns t c =
    rw (c.min.ensures, c.saturating_sub-gap.ensures)
    (line_turned c.requires c.if-slope-whole.false c.if-steps-eq0.false _ c.stairs_gap-earlier.ensures)

pub stairs_gap-line_gap-requires : goal.stairs_gap-line_gap-requires
stairs_gap-line_gap-requires t c =
    (omega (arith, c.requires), rw c.saturating_sub-gap.ensures (turned_sizes c.requires))

pub stairs_gap-returns : goal.stairs_gap-returns
stairs_gap-returns t c = stairs_turned c.requires _ (rw c.saturating_sub-gap.ensures at c.line_gap.ensures)
