-- Remainders by 7, weekdays of sums, and weekdays by a product.
use Prim.Native.Nat.{ℕ, ◌+◌, ◌*◌, ◌/◌, ◌%◌, ◌^◌, ◌≤◌, ◌<◌}
use mathlib.Core.Path.{◌≡◌, ap, sym, ◌∙◌, subst}
use native.Mathlib.Omega.{arith}
use lib.Dec.{lit<}
use lib.IntN.{ℤ, pos, negsuc, nat_abs, ◌+ℤ◌, +ℤ_assoc, +ℤ_comm}
use Rattle.numbers.specs.Floor.{floor_remainder}
use Rattle.numbers.proofs.Quotients.{remainder_add}
use Rattle.calendar.specs.Count.{weekday}
use Rattle.calendar.proofs.Quotients.{seventh_product}

-- the remainder of a sum, by the summand in the middle
pub remainder_swap : (z p k : ℤ) → floor_remainder (z +ℤ p +ℤ k) 7 ≡ (floor_remainder (z +ℤ k) 7 + floor_remainder p 7) % 7
remainder_swap z p k =
    ap (λ z. floor_remainder z 7) (+ℤ_assoc z p k ∙ ap (λ x. z +ℤ x) (+ℤ_comm p k) ∙ sym (+ℤ_assoc z k p)) ∙ remainder_add 7 (lit< tt) (z +ℤ k) p

remainder_le : (z : ℤ) → floor_remainder z 7 ≤ 6
remainder_le (pos a) = omega arith
remainder_le (negsuc a) = omega arith

pub weekday_between : (z : ℤ) → (1 ≤ nat_abs (weekday z)) × (nat_abs (weekday z) ≤ 7)
unfolding weekday
weekday_between z = (omega arith, omega (arith, remainder_le (z +ℤ pos 3)))

pub weekday_after : (z : ℤ) (n : ℕ) → weekday (z +ℤ pos n) ≡ pos ((floor_remainder (z +ℤ pos 3) 7 + n) % 7 + 1)
unfolding weekday
weekday_after z n = ap pos (omega (arith, remainder_swap z (pos n) (pos 3)))

-- a weekday by what is left of the week's product, and an eighth of 2^32
pub by_sevenths : (n : ℕ) → n < 2 ^ 27 → (n * 613566757 + 2 ^ 29) % 2 ^ 32 / 2 ^ 29 ≡ n % 7 + 1
by_sevenths n h = ap (λ x. x / 2 ^ 29) lower ∙ eighths (n % 7) (n / 7) (omega arith) (omega (arith, h))
  where
    left : n * 613566757 % 2 ^ 32 ≡ 613566757 * (n % 7) + 3 * (n / 7)
    left = omega (arith, seventh_product n (omega arith))

    below : 613566757 * (n % 7) + 3 * (n / 7) + 2 ^ 29 < 2 ^ 32
    below = omega (arith, h)

    plus : (x : ℕ) → x % 2 ^ 32 + 2 ^ 29 < 2 ^ 32 → (x + 2 ^ 29) % 2 ^ 32 ≡ x % 2 ^ 32 + 2 ^ 29
    plus x l = omega (arith, l)

    lower : (n * 613566757 + 2 ^ 29) % 2 ^ 32 ≡ 613566757 * (n % 7) + 3 * (n / 7) + 2 ^ 29
    lower = plus (n * 613566757) (subst (λ (f : ℕ). f + 2 ^ 29 < 2 ^ 32) (sym left) below) ∙ ap (λ f. f + 2 ^ 29) left

    eighths : (r q : ℕ) → r ≤ 6 → q ≤ 19173961 → (613566757 * r + 3 * q + 2 ^ 29) / 2 ^ 29 ≡ r + 1
    eighths r q k l = omega (arith, k, l)
