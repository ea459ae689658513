-- A tested i64 as a natural number, and a natural number as an i64.
use Prim.Native.Nat.{ℕ, zero, suc, ◌+◌, ◌≤◌, ◌<◌, ◌^◌}
use mathlib.Core.Path.{◌≡◌, refl, sym, ap, ◌∙◌, subst}
use mathlib.Core.Bool.{Bool, true, false}
use native.Mathlib.Nat.{lt_of_le_of_lt}
use native.Mathlib.Omega.{arith}
use lib.IntN.{ℤ, pos, negsuc, nat_abs, neg_ℤ, ◌+ℤ◌, ◌-ℤ◌, +ℤ_comm}
use lib.Signed.{lt_z, mag, non_neg}
use lib.Dec.{T}
use borrow.Author.Tests.{ltb-true}
use mir.Syntax.{Width, w64}
use mir.Val.{SFits, Fits, bits, to_z, of_z}
use mir.Facts.{to_z-of_z, to_z_pos}
use Rattle.numbers.specs.Range.{outside, since}
use Rattle.numbers.proofs.Integers.{on_sub, sub_pos, since_is, since_le}
use Rattle.numbers.proofs.Bools.{no_both}

-- a signed local holds the bits of z, and each reading goes through them
abbrev pub read : ℤ → ℤ
read z = to_z w64 (of_z w64 z)

-- a natural number that fits: the casts between u64 and i64
pub pos_fits : {n : ℕ} → n < 2 ^ 63 → SFits w64 (pos n)
pos_fits h = record { sfits = h }

pub cast_pos : (w : Width) {z : ℤ} (n : ℕ) → n < 2 ^ bits w → z ≡ pos n → T (non_neg z) × Fits w (nat_abs z)
cast_pos w n h e = subst (λ z. T (non_neg z) × Fits w (nat_abs z)) (sym e) (tt, record { fits = h })

-- a key of a match is the number's bits
pub key_is : {z : ℤ} → SFits w64 z → (k : ℕ) → k < 2 ^ 63 → of_z w64 z ≡ k → z ≡ pos k
key_is f k small e = sym (to_z-of_z f) ∙ ap (to_z w64) e ∙ to_z_pos w64 small

-- what a test that was answered for a local says of its number
module _ (first last : ℤ) {z : ℤ} (f : SFits w64 z) where
  pub answered : {r t : Bool} → r ≡ outside first last (read z) → r ≡ t → outside first last z ≡ t
  answered e h = ap (outside first last) (sym (to_z-of_z f)) ∙ sym e ∙ h

-- z in first..last: what `z - first` and its cast to an unsigned number ask, and what they are
module _ (first last : ℤ) (some : lt_z last first ≡ false) (small : since first last < 2 ^ 63) {z : ℤ} (f : SFits w64 z)
    (lo : lt_z z first ≡ false) (hi : lt_z last z ≡ false) where
  near : since first z ≤ since first last
  near = since_le first last some z lo hi

  difference : read z -ℤ first ≡ pos (since first z)
  difference = ap (λ (y : ℤ). y -ℤ first) (to_z-of_z f) ∙ since_is first z lo

  pub from_first : SFits w64 (read z -ℤ first)
  from_first = subst (λ (y : ℤ). SFits w64 y) (sym difference) (record { sfits = omega (arith, near) })

  back : read (read z -ℤ first) ≡ pos (since first z)
  back = to_z-of_z from_first ∙ difference

  pub from_first_cast : (w : Width) → since first last < 2 ^ bits w → T (non_neg (read (read z -ℤ first))) × Fits w (nat_abs (read (read z -ℤ first)))
  from_first_cast w h = cast_pos w (since first z) (lt_of_le_of_lt near h) back

  pub from_first_is : nat_abs (read (read z -ℤ first)) ≡ since first z
  from_first_is = ap nat_abs back

-- back: n + first
mag_add : (first : ℤ) (n : ℕ) → mag (pos n +ℤ first) ≤ n + mag first + 1
mag_add (pos a) n = omega arith
mag_add (negsuc a) n = on_sub (λ z. mag z ≤ n + a + 1) n _ (λ l. omega arith) (λ l. omega arith)

module _ (first : ℤ) (n : ℕ) (small : n + mag first + 1 < 2 ^ 63) where
  pub add_first : SFits w64 (to_z w64 n +ℤ first)
  add_first = rw (to_z_pos w64 {n = n} (omega arith)) (record { sfits = omega (arith, mag_add first n) })

  pub add_first_is : read (to_z w64 n +ℤ first) ≡ pos n +ℤ first
  add_first_is = to_z-of_z add_first ∙ ap (λ (y : ℤ). y +ℤ first) (to_z_pos w64 (omega arith))

-- sums and differences of numbers below 2 ^ 62
pub add_fits : (a b : ℤ) → mag a < 2 ^ 62 → mag b < 2 ^ 62 → SFits w64 (a +ℤ b)
add_fits (pos a) (pos b) h k = record { sfits = omega arith }
add_fits (pos a) (negsuc b) h k = on_sub (SFits w64) a (suc b) (λ l. record { sfits = omega arith }) (λ l. record { sfits = omega arith })
add_fits (negsuc a) (pos b) h k = on_sub (SFits w64) b (suc a) (λ l. record { sfits = omega arith }) (λ l. record { sfits = omega arith })
add_fits (negsuc a) (negsuc b) h k = record { sfits = omega arith }

pub mag_negate : (b : ℤ) → mag (neg_ℤ b) ≤ mag b + 1
mag_negate (pos zero) = omega arith
mag_negate (pos (suc b)) = omega arith
mag_negate (negsuc b) = omega arith

pub sub_fits : (a b : ℤ) → mag a < 2 ^ 61 → mag b < 2 ^ 61 → SFits w64 (a -ℤ b)
sub_fits a b h k = let n = mag_negate b in add_fits a (neg_ℤ b) (omega arith) (omega arith)

pub mag_since : (first : ℤ) (n : ℕ) → mag (first +ℤ pos n) ≤ n + mag first + 1
mag_since first n = subst (λ (z : ℤ). mag z ≤ n + mag first + 1) (+ℤ_comm (pos n) first) (mag_add first n)

-- a number below zero, as -1 and a natural number less
module _ {z : ℤ} (f : SFits w64 z) (h : lt_z (read z) (pos 0) ≡ true) where
  complement : negsuc 0 -ℤ read z ≡ pos (mag z)
  complement = ap (λ (y : ℤ). negsuc 0 -ℤ y) (to_z-of_z f) ∙ go z (sym (ap (λ (y : ℤ). lt_z y (pos 0)) (to_z-of_z f)) ∙ h)
    where
      go : (z : ℤ) → lt_z z (pos 0) ≡ true → negsuc 0 -ℤ z ≡ pos (mag z)
      go (pos a) h = absurd (omega (arith, ltb-true a 0 h))
      go (negsuc a) h = sub_pos (suc a) 1 (omega arith) ∙ ap pos (omega arith)

  pub complement_fits : SFits w64 (negsuc 0 -ℤ read z)
  complement_fits = subst (SFits w64) (sym complement) (record { sfits = f.sfits })

  pub complement_cast : T (non_neg (read (negsuc 0 -ℤ read z))) × Fits w64 (nat_abs (read (negsuc 0 -ℤ read z)))
  complement_cast = cast_pos w64 (mag z) (omega (arith, f.sfits)) (to_z-of_z complement_fits ∙ complement)

  pub complement_small : nat_abs (read (negsuc 0 -ℤ read z)) < 2 ^ 63
  complement_small = subst (λ (y : ℤ). nat_abs y < 2 ^ 63) (sym (to_z-of_z complement_fits ∙ complement)) f.sfits

-- a number that is not below zero, cast to u64
pub not_negative_cast : {z : ℤ} → SFits w64 z → lt_z (read z) (pos 0) ≡ false → T (non_neg (read z)) × Fits w64 (nat_abs (read z))
not_negative_cast {z} f h = subst (λ (y : ℤ). T (non_neg y) × Fits w64 (nat_abs y)) (sym (to_z-of_z f)) (go z f.sfits (sym (ap (λ (y : ℤ). lt_z y (pos 0)) (to_z-of_z f)) ∙ h))
  where
    go : (z : ℤ) → mag z < 2 ^ 63 → lt_z z (pos 0) ≡ false → T (non_neg z) × Fits w64 (nat_abs z)
    go (pos a) l h = (tt, record { fits = omega arith })
    go (negsuc a) l h = no_both true refl h
