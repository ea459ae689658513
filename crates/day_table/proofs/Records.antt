-- The claim of the month's multiply-and-shift constant, as the sheet has it: the checker accepts it.
use Prim.Native.Nat.{ℕ, ◌+◌, ◌-◌, ◌*◌, ◌≤◌, ◌<◌}
use mathlib.Core.Path.{◌≡◌, refl}
use native.Mathlib.Omega.{arith}
use Rattle.constants.specs.Limits.{outside_limits}
use Rattle.constants.specs.Difference.{differs, exact_quotient, device_quotient}
use Rattle.constants.specs.Answers.{difference}
use Rattle.constants.proofs.Trials.{Accepted, accepts, rest_or_none}

-- of whole fifths a quotient leaves 2
fifths : (z q last : ℕ) → q ≡ 5 * z + 2 → q < 5 * last + 7 → q ≤ 5 * last + 2
fifths z q last e h = let i : z ≤ last = omega arith in omega arith

pub month : Accepted 5 461 153 2141 197913 16 734
unfolding outside_limits difference differs exact_quotient device_quotient
month =
    accepts 5 461 153 2141 197913 16 734 refl (omega arith)
    (λ n q r h e l. (
      rest_or_none r
          (λ p. let s : q ≤ 26 = omega arith in omega arith)
          (λ p. let s : 61 * q ≤ 2 * n + 184 = omega arith in let t = fifths (2 * n + 184 - 61 * q) q 4 (omega arith) (omega arith) in omega arith),
      let s : 3 ≤ q = omega arith in omega arith,
    ))
    refl
