-- The claims of the calendar's multiply-and-shift constants, as the sheet has them: the checker accepts each.
use Prim.Native.Nat.{ℕ, ◌+◌, ◌-◌, ◌*◌, ◌≤◌, ◌<◌}
use mathlib.Core.Path.{◌≡◌, refl}
use native.Mathlib.Omega.{arith}
use Rattle.constants.specs.Limits.{outside_limits}
use Rattle.constants.specs.Difference.{differs, exact_quotient, device_quotient}
use Rattle.constants.specs.Answers.{difference}
use Rattle.constants.proofs.Trials.{Accepted, accepts, rest_or_none}

-- of whole fourths a quotient leaves 3
fourths : (z q last : ℕ) → q ≡ 4 * z + 3 → q < 4 * last + 7 → q ≤ 4 * last + 3
fourths z q last e h = let i : z ≤ last = omega arith in omega arith

pub century : Accepted 4 3 146097 120414423 120414423 42 50366940
unfolding outside_limits difference differs exact_quotient device_quotient
century =
    accepts 4 3 146097 120414423 120414423 42 50366940 refl (omega arith)
    (λ n q r h e l. (
      rest_or_none r
          (λ p. let s : q ≤ 1378 = omega arith in omega arith)
          (λ p. let s : 36524 * q ≤ n = omega arith in let t = fourths (n - 36524 * q) q 343 (omega arith) (omega arith) in omega arith),
      omega arith,
    ))
    refl

pub year : Accepted 4 3 1461 23517959 23517959 33 31934172
unfolding outside_limits difference differs exact_quotient device_quotient
year =
    accepts 4 3 1461 23517959 23517959 33 31934172 refl (omega arith)
    (λ n q r h e l. (
      rest_or_none r
          (λ p. let s : q ≤ 87430 = omega arith in omega arith)
          (λ p. let s : 365 * q ≤ n = omega arith in let t = fourths (n - 365 * q) q 21856 (omega arith) (omega arith) in omega arith),
      omega arith,
    ))
    refl

pub january_year : Accepted 4 236 1461 23517959 1393439081 33 31933018
unfolding outside_limits difference differs exact_quotient device_quotient
january_year =
    accepts 4 236 1461 23517959 1393439081 33 31933018 refl (omega arith)
    (λ n q r h e l. let s : q ≤ 87427 = omega arith in (omega arith, omega arith))
    refl

pub seventh : Accepted 1 0 7 613566757 0 32 1431655770
unfolding outside_limits difference differs exact_quotient device_quotient
seventh = accepts 1 0 7 613566757 0 32 1431655770 refl (omega arith) (λ n q r h e l. (omega arith, omega arith)) refl

pub hundredth : Accepted 1 0 100 167773 0 24 199799
unfolding outside_limits difference differs exact_quotient device_quotient
hundredth = accepts 1 0 100 167773 0 24 199799 refl (omega arith) (λ n q r h e l. (omega arith, omega arith)) refl
