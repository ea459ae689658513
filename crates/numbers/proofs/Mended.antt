-- A quotient toward zero that is mended where the remainder is below zero is the floored one, and so is the remainder.
use Prim.Native.Nat.{ℕ, zero, suc, ◌-◌, ◌*◌, ◌/◌, ◌%◌, ◌≤◌, ◌<◌, ◌^◌}
use mathlib.Core.Path.{◌≡◌, sym, ap, ap₂, ◌∙◌, subst}
use mathlib.Core.Bool.{Bool, true, false, cond}
use native.Mathlib.Nat.{div-add-mod', mod-lt, mod-eq_of_lt, suc-mod, mod_self, div-eq_of_lt-le, div-le_self}
use native.Mathlib.Decide.{dec_lt}
use native.Mathlib.Omega.{arith}
use lib.IntN.{ℤ, pos, negsuc, neg_ℤ, ◌+ℤ◌, ◌-ℤ◌, ◌*ℤ◌, +ℤ_idr}
use lib.Signed.{lt_z, mag, quot_z, rem_z, mag_rem}
use borrow.Author.Tests.{le-ltb}
use mir.Syntax.{w64}
use mir.Val.{SFits}
use mir.Facts.{to_z-of_z}
use Rattle.numbers.specs.Floor.{floor_quotient, floor_remainder}
use Rattle.numbers.proofs.Floor.{remainder_below}
use Rattle.numbers.proofs.Integers.{sub_pos}
use Rattle.numbers.proofs.Machine.{read}

-- what a remainder borrows: 1 below zero, else 0
abbrev pub borrowed : ℤ → ℤ
borrowed rest = cond (lt_z rest (pos 0)) (pos 1) (pos 0)

-- the next number is in the same multiple of d, or begins the next one
data Next (a d : ℕ) : Type 0 where
  same : suc a % d ≡ suc (a % d) → suc a / d ≡ a / d → Next a d
  begins : suc a % d ≡ 0 → suc (a % d) ≡ d → suc a / d ≡ suc (a / d) → Next a d

step : (a d : ℕ) → 0 < d → Next a d
step a d h = go (dec_lt (suc (a % d)) d)
  where
    go : Dec (suc (a % d) < d) → Next a d
    go (yes l) = let e = div-add-mod' a d in same (suc-mod a d ∙ mod-eq_of_lt l) (div-eq_of_lt-le d (omega arith) (omega arith))
    go (no l) =
        let e = div-add-mod' a d in
        let m = mod-lt a h in
        let f : suc (a % d) ≡ d = omega arith in
        begins (suc-mod a d ∙ ap (λ n. n % d) f ∙ mod_self d) f (div-eq_of_lt-le {k = suc (a / d)} d (omega arith) (omega arith))

-- -n, less what a remainder of -m borrows, where m is zero and where it is not
none : (n : ℕ) {m : ℕ} → m ≡ 0 → neg_ℤ (pos (suc n)) -ℤ borrowed (neg_ℤ (pos m)) ≡ negsuc n
none n e = ap (λ m. negsuc n -ℤ borrowed (neg_ℤ (pos m))) e ∙ +ℤ_idr (negsuc n)

one : (n m : ℕ) {r : ℕ} → r ≡ suc m → neg_ℤ (pos n) -ℤ borrowed (neg_ℤ (pos r)) ≡ negsuc n
one zero m e = ap (λ r. pos 0 -ℤ borrowed (neg_ℤ (pos r))) e
one (suc n) m e = ap (λ r. negsuc n -ℤ borrowed (neg_ℤ (pos r))) e ∙ ap negsuc (omega arith)

pub mended_quotient : (z : ℤ) (d : ℕ) → 0 < d → quot_z z (pos d) -ℤ borrowed (rem_z z (pos d)) ≡ floor_quotient z d
mended_quotient (pos a) d h = rw (le-ltb (a % d) 0 (omega arith)) (ap pos (omega arith))
mended_quotient (negsuc a) d h = go (step a d h)
  where
    go : Next a d → neg_ℤ (pos (suc a / d)) -ℤ borrowed (neg_ℤ (pos (suc a % d))) ≡ negsuc (a / d)
    go (same r q) = one (suc a / d) (a % d) r ∙ ap negsuc q
    go (begins r f q) = ap (λ n. neg_ℤ (pos n) -ℤ borrowed (neg_ℤ (pos (suc a % d)))) q ∙ none (a / d) r

pub mended_remainder : (z : ℤ) (d : ℕ) → 0 < d → rem_z z (pos d) +ℤ pos d *ℤ borrowed (rem_z z (pos d)) ≡ pos (floor_remainder z d)
mended_remainder (pos a) d h = rw (le-ltb (a % d) 0 (omega arith)) (ap pos (omega arith))
mended_remainder (negsuc a) d h = go (step a d h)
  where
    go : Next a d → neg_ℤ (pos (suc a % d)) +ℤ pos d *ℤ borrowed (neg_ℤ (pos (suc a % d))) ≡ pos (d - 1 - a % d)
    go (same r q) =
        let l = mod-lt (suc a) h in
        ap (λ m. neg_ℤ (pos m) +ℤ pos d *ℤ borrowed (neg_ℤ (pos m))) r ∙ sub_pos (d * 1) (suc (a % d)) (omega arith) ∙ ap pos (omega arith)
    go (begins r f q) = ap (λ m. neg_ℤ (pos m) +ℤ pos d *ℤ borrowed (neg_ℤ (pos m))) r ∙ ap pos (omega arith)

-- quotients and remainders are no larger than the number
mag_neg : (n : ℕ) → mag (neg_ℤ (pos n)) ≤ n
mag_neg zero = omega arith
mag_neg (suc n) = omega arith

mag_quotient : (z : ℤ) (d : ℕ) → 0 < d → mag (quot_z z (pos d)) ≤ mag z
mag_quotient (pos a) d h = div-le_self a d
mag_quotient (negsuc a) d h = go (step a d h)
  where
    go : Next a d → mag (neg_ℤ (pos (suc a / d))) ≤ a
    go (same r q) = omega (arith, mag_neg (suc a / d), div-le_self a d)
    go (begins r f q) = subst (λ n. mag (neg_ℤ (pos n)) ≤ a) (sym q) (div-le_self a d)

mag_floored : (z : ℤ) (d : ℕ) → mag (floor_quotient z d) ≤ mag z
mag_floored (pos a) d = div-le_self a d
mag_floored (negsuc a) d = div-le_self a d

-- the local z, its quotient and remainder by d, and what the remainder borrows, as code reads them
module _ (z : ℤ) (d : ℕ) (f : SFits w64 z) (h : 0 < d) where
  quotient_fits : SFits w64 (quot_z z (pos d))
  quotient_fits = record { sfits = omega (arith, f.sfits, mag_quotient z d h) }

  remainder_fits : SFits w64 (rem_z z (pos d))
  remainder_fits = record { sfits = omega (arith, f.sfits, mag_rem z (pos d)) }

  pub divides : SFits w64 (quot_z (read z) (pos d))
  divides = subst (λ (y : ℤ). SFits w64 (quot_z y (pos d))) (sym (to_z-of_z f)) quotient_fits

  pub floored_fits : SFits w64 (floor_quotient z d)
  floored_fits = record { sfits = omega (arith, f.sfits, mag_floored z d) }

  module _ {b : ℤ} (g : SFits w64 b) (e : b ≡ borrowed (read (rem_z (read z) (pos d)))) where
    rest : read (rem_z (read z) (pos d)) ≡ rem_z z (pos d)
    rest = ap (λ (y : ℤ). read (rem_z y (pos d))) (to_z-of_z f) ∙ to_z-of_z remainder_fits

    lent : read b ≡ borrowed (rem_z z (pos d))
    lent = to_z-of_z g ∙ e ∙ ap borrowed rest

    pub floored : read (quot_z (read z) (pos d)) -ℤ read b ≡ floor_quotient z d
    floored =
        ap₂ ◌-ℤ◌ (ap (λ (y : ℤ). read (quot_z y (pos d))) (to_z-of_z f) ∙ to_z-of_z quotient_fits) lent ∙ mended_quotient z d h

    module _ (small : d < 2 ^ 63) where
      lent_fits : (t : Bool) → SFits w64 (pos d *ℤ cond t (pos 1) (pos 0))
      lent_fits true = record { sfits = omega arith }
      lent_fits false = record { sfits = omega arith }

      pub multiplies : SFits w64 (pos d *ℤ read b)
      multiplies = subst (λ (y : ℤ). SFits w64 (pos d *ℤ y)) (sym lent) (lent_fits (lt_z (rem_z z (pos d)) (pos 0)))

      pub remains : read (rem_z (read z) (pos d)) +ℤ read (pos d *ℤ read b) ≡ pos (floor_remainder z d)
      remains = ap₂ ◌+ℤ◌ rest (to_z-of_z multiplies ∙ ap (λ (y : ℤ). pos d *ℤ y) lent) ∙ mended_remainder z d h

      pub remains_fits : SFits w64 (pos (floor_remainder z d))
      remains_fits = record { sfits = omega (arith, remainder_below z d h) }
