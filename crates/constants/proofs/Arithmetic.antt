-- A quotient against a number as a product, two lines, and a period of a quotient.
use mathlib.Core.Path.{◌≡◌, ap, ◌∙◌}
use Prim.Native.Nat.{ℕ, suc, ◌+◌, ◌-◌, ◌*◌, ◌/◌, ◌%◌, ◌^◌, ◌≤◌, ◌<◌}
use native.Mathlib.Nat.{le-div_iff_mul-le, lt-div-mul-add, div-mul-le_self, mul-le-mul_right, lt_of_mul-lt-mul_right, add-mul, mul-add, suc-mul, one-mul, add-mul-div_left, mul_left_comm}
use native.Mathlib.Numerals.{add-one}
use native.Mathlib.Decide.{dec_lt}
use native.Mathlib.Omega.{arith}
use lib.Dec.{lit<}
use lib.Pow.{shl_exact}

module _ (x e t p : ℕ) where
  -- e + t is below the quotient
  pub below_quotient : 0 < p → e + t < x / p → (e + t + 1) * p ≤ x
  below_quotient pos h = rw add-one ((le-div_iff_mul-le pos).0 h)

  pub below_quotient_back : 0 < p → (e + t + 1) * p ≤ x → e + t < x / p
  below_quotient_back pos h = (le-div_iff_mul-le pos).1 (rw add-one at h)

  -- the quotient and t are below e
  pub above_quotient : 0 < p → x / p + t < e → x + t * p + 1 ≤ e * p
  above_quotient pos h =
      let g : suc (x / p + t) * p ≤ e * p = mul-le-mul_right p h in
      omega (arith, suc-mul (x / p + t) p, add-mul (x / p) t p, lt-div-mul-add {a = x} pos)

  pub above_quotient_back : x + t * p + 1 ≤ e * p → x / p + t < e
  above_quotient_back h = lt_of_mul-lt-mul_right p (omega (arith, add-mul (x / p) t p, div-mul-le_self x p))

-- two lines in j: where the second is up with the first, it has gained what it lacked at 0
module _ (u v x y j : ℕ) where
  pub gained : u + v * j ≤ x + y * j → u - x ≤ (y - v) * j
  gained h = go (dec_lt y v)
    where
      go : Dec (y < v) → u - x ≤ (y - v) * j
      go (yes l) = let le : y ≤ v = omega arith in omega (arith, mul-le-mul_right j le)
      go (no l) = let e : y ≡ v + (y - v) = omega arith in omega (arith, ap (λ (z : ℕ). z * j) e, add-mul v (y - v) j)

  pub gained_back : v ≤ y → u - x ≤ (y - v) * j → u + v * j ≤ x + y * j
  gained_back le h = let e : y ≡ v + (y - v) = omega arith in omega (arith, ap (λ (z : ℕ). z * j) e, add-mul v (y - v) j)

pub period : (a b d r j : ℕ) → 0 < d → (a * (r + d * j) + b) / d ≡ (a * r + b) / d + a * j
period a b d r j pos = ap (λ (z : ℕ). z / d) shape ∙ add-mul-div_left (a * r + b) (a * j) pos
  where
    shape : a * (r + d * j) + b ≡ a * r + b + d * (a * j)
    shape = omega (arith, mul-add a r (d * j), mul_left_comm a d j)

-- `1 << k` at 64 bits is 2 ^ k
pub one_shifted : (k : ℕ) → k < 64 → (1 * 2 ^ k) % 2 ^ 64 ≡ 2 ^ k
one_shifted k h = shl_exact {a = 1} 1 k 64 (lit< tt) (omega arith) ∙ one-mul (2 ^ k)
