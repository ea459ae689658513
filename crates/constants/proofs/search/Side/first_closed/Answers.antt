-- The fewest periods that close a gap, and the least residue whose gap they close.
use mathlib.Core.Path.{◌≡◌, ap}
use Prim.Native.Nat.{◌*◌, ◌^◌, ◌<◌}
use native.Mathlib.Nat.{pos_of_ne-zero, mul-le-mul_right}
use native.Mathlib.Omega.{arith}
use Rattle.constants.proofs.Gaps.{closing_lt, first_closed, none_below}
use Rattle.constants.proofs.search.Side.first_closed.Goals as goal
use Rattle.constants.proofs.search.Side.first_closed.Goals.{Else-end-before}

closing_fits : (c : Else-end-before) → c.args.self.now.gain * c.in_ok-periods.periods < 2 ^ 60
closing_fits c =
    closing_lt c.args.self.now c.args.end _ _ (pos_of_ne-zero c.if-end-eq0.false) (omega arith) c.least_gap.ensures _ c.in_ok-periods.ensures

pub overflow_mul-self : goal.overflow_mul-self
overflow_mul-self c = omega (arith, closing_fits c)

pub first_within-requires-clause-small : goal.first_within-requires-clause-small
first_within-requires-clause-small c = closing_fits c

-- the end does not cut the periods off, where what is before them is below it
few : (c : Else-end-before) → c.min.result ≡ c.in_ok-periods.periods
few c = omega (arith, mul-le-mul_right c.min.result c.args.self.now.narrow.d_lo)

pub returns-then-n-end : goal.returns-then-n-end
returns-then-n-end c =
    let e = few (goal.at.returns-then-n-end c).Else-end-before in
    rw e
    (first_closed c.args.self.now c.args.end _ _ (pos_of_ne-zero c.if-end-eq0.false) (omega arith) c.least_gap.ensures _ c.in_ok-periods.ensures _ c.first_within.ensures
    (omega (arith, ap (λ j. c.args.self.now.d * j) e)))

pub returns-else-n-end : goal.returns-else-n-end
returns-else-n-end c =
    let e = few (goal.at.returns-else-n-end c).Else-end-before in
    none_below c.args.self.now c.args.end _ _ (pos_of_ne-zero c.if-end-eq0.false) (omega arith) c.least_gap.ensures _ c.in_ok-periods.ensures _ c.first_within.ensures
    (omega (arith, ap (λ j. c.args.self.now.d * j) e))
