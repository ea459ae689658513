use mathlib.Core.Path.{refl}
use native.Mathlib.Omega.{arith}
use Rattle.constants.specs.Sides.{gap}
use Rattle.constants.proofs.Bounds.{power_is, above_hi, exact_period, narrow_above}
use Rattle.constants.proofs.Difference.{line_lacks}
use Rattle.constants.proofs.search.Side.above.Goals as goal

pub overflow_mul-result : goal.overflow_mul-result
overflow_mul-result c = let q = c.args.trial in rw (power_is q) (omega (arith, above_hi q))

pub overflow_mul-trial-2 : goal.overflow_mul-trial-2
overflow_mul-trial-2 c = let q = c.args.trial in rw (power_is q) (omega (arith, exact_period q))

pub invariant_of-result : goal.invariant_of-result
invariant_of-result c = let q = c.args.trial in record { narrow = rw (power_is q, c.saturating_sub.ensures, power_is q) (narrow_above q) }

pub returns : goal.returns
unfolding gap
returns c =
    let q = c.args.trial in
    record { d_is = refl; gain_is = rw (c.saturating_sub.ensures, power_is q); gap_is = λ r. rw (power_is q) (line_lacks q r) }
