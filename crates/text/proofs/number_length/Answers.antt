use Prim.Native.Nat.{ℕ, ◌+◌, ◌≤◌, ◌<◌, ◌^◌, ◌*◌, ◌-◌}
use mathlib.Core.Path.{◌≡◌}
use Rattle.std.proofs.Common.{Option, Some, None, MatchOption, rules}
use Rattle.std.specs.Option.{IfNone, IfSome}
use native.Mathlib.Nat.{pow-suc}
use native.Mathlib.Numerals.{add-one}
use native.Mathlib.Omega.{arith}
use lib.ListN.{length}
use Rattle.text.specs.Decimal.{decimal}
use Rattle.text.proofs.Decimal.{decimal_length}
use Rattle.text.proofs.number_length.Goals as goal

-- the length by the greatest power of ten that is not above the number
by_power :
    (n count : ℕ) (power : Option ℕ) → IfNone power (n ≡ 0) → IfSome power (λ k. 10 ^ k ≤ n) → IfSome power (λ k. n < 10 * 10 ^ k) →
    IfSome power (λ k. k < 20) → MatchOption power (count ≡ 1) (λ k. count ≡ k + 1) → (count ≡ length (decimal n)) × (count ≤ 20)
by_power n count None zero low high bound e =
    let h : n < 10 ^ count = rw e (omega (arith, zero)) in (decimal_length n count (omega arith) (λ m. absurd (omega arith)) h, omega arith)
by_power n count (Some k) zero low high bound e =
    let l : 10 ^ (count - 1) ≤ n = let same : count - 1 ≡ k = omega arith in rw same low in
    let h : n < 10 ^ count = rw (e, add-one, pow-suc) (omega (arith, high)) in
    (decimal_length n count (omega arith) (λ m. l) h, omega arith)

pub returns : goal.returns
returns c = let h = c.map_or in let k = c.checked_ilog10.ensures in
    by_power c.args.n h.result c.checked_ilog10.result k.none k.power_le k.next_power_gt k.bound (search rules)
