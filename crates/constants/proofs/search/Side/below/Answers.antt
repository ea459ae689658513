use mathlib.Core.Path.{refl}
use native.Mathlib.Omega.{arith}
use Rattle.constants.specs.Sides.{gap}
use Rattle.constants.proofs.Bounds.{power_is, below_hi, first_hi, exact_period, narrow_below}
use Rattle.constants.proofs.Difference.{stairs_lack}
use Rattle.constants.proofs.search.Side.below.Goals as goal

pub overflow_mul-result : goal.overflow_mul-result
overflow_mul-result c = let q = c.args.trial in rw (power_is q) (omega (arith, below_hi q))

pub overflow_add-result : goal.overflow_add-result
overflow_add-result c = let q = c.args.trial in rw (power_is q) (omega (arith, below_hi q, q.allowed.c_hi))

pub overflow_add-result-2 : goal.overflow_add-result-2
overflow_add-result-2 c = let q = c.args.trial in rw (power_is q) (omega (arith, below_hi q, q.allowed.c_hi))

pub overflow_mul-result-2 : goal.overflow_mul-result-2
overflow_mul-result-2 c = let q = c.args.trial in rw (power_is q) (omega (arith, first_hi q))

pub overflow_mul-trial : goal.overflow_mul-trial
overflow_mul-trial c = let q = c.args.trial in rw (power_is q) (omega (arith, exact_period q))

pub invariant_of-result : goal.invariant_of-result
invariant_of-result c = let q = c.args.trial in record { narrow = rw (power_is q, c.saturating_sub.ensures, power_is q) (narrow_below q) }

pub returns : goal.returns
unfolding gap
returns c =
    let q = c.args.trial in
    record { d_is = refl; gain_is = rw (c.saturating_sub.ensures, power_is q); gap_is = λ r. rw (power_is q) (stairs_lack q r) }
