-- A count in the range and a shift of it: the test that decides whether the sum is in the range, before it is taken.
use Prim.Native.Nat.{◌<◌, ◌^◌}
use mathlib.Core.Path.{◌≡◌, refl, sym, ap, ap₂, ◌∙◌, subst}
use mathlib.Core.Bool.{false, ◌||◌}
use native.Mathlib.Omega.{arith}
use lib.Dec.{lit<}
use lib.IntN.{ℤ, ◌+ℤ◌, ◌-ℤ◌}
use lib.Signed.{lt_z, mag}
use mir.Syntax.{w64}
use mir.Val.{SFits}
use mir.Facts.{to_z-of_z}
use Rattle.numbers.specs.Range.{outside, since}
use Rattle.numbers.proofs.Integers.{lt_shift, add_difference, add_since, since_le, outside_no}
use Rattle.numbers.proofs.Machine.{read, sub_fits, mag_since}
use Rattle.calendar.specs.Range.{first_count, last_count}

-- a sum lies in a range exactly if the second number lies in the range less the first
outside_shift : (first last z p : ℤ) → outside (first -ℤ z) (last -ℤ z) p ≡ outside first last (z +ℤ p)
outside_shift first last z p =
    ap₂ ◌||◌ (sym (lt_shift z p (first -ℤ z)) ∙ ap (lt_z (z +ℤ p)) (add_difference z first))
    (sym (lt_shift z (last -ℤ z) p) ∙ ap (λ l. lt_z l (z +ℤ p)) (add_difference z last))

-- a count in the range is small
count_small : (z : ℤ) → outside first_count last_count z ≡ false → mag z < 2 ^ 61
count_small z h =
    let t = outside_no first_count last_count z h in
    let l = since_le first_count last_count refl z t.0 t.1 in
    subst (λ (z : ℤ). mag z < 2 ^ 61) (add_since first_count z t.0) (omega (arith, mag_since first_count (since first_count z)))

pub count_fits : (z : ℤ) → outside first_count last_count z ≡ false → SFits w64 z
count_fits z h = let l = count_small z h in record { sfits = omega arith }

module _ (z p : ℤ) (in_range_lem : outside first_count last_count z ≡ false) (g : SFits w64 p) where
  f : SFits w64 z
  f = count_fits z in_range_lem

  -- an end of the range, less the count
  less : (end : ℤ) → mag end < 2 ^ 61 → SFits w64 (end -ℤ read z)
  less end small = subst (λ (y : ℤ). SFits w64 (end -ℤ y)) (sym (to_z-of_z f)) (sub_fits end z small (count_small z in_range_lem))

  pub first_subtracts : SFits w64 (first_count -ℤ read z)
  first_subtracts = less first_count (lit< tt)

  pub last_subtracts : SFits w64 (last_count -ℤ read z)
  last_subtracts = less last_count (lit< tt)

  -- the test of the shift is that of the sum
  pub sum_tested : outside first_count last_count (z +ℤ p) ≡ outside (read (first_count -ℤ read z)) (read (last_count -ℤ read z)) (read p)
  sum_tested =
      sym (outside_shift first_count last_count z p)
      ∙ (λ i. outside (first_count -ℤ sym (to_z-of_z f) i) (last_count -ℤ sym (to_z-of_z f) i) (sym (to_z-of_z g) i))
      ∙ (λ i. outside (sym (to_z-of_z first_subtracts) i) (sym (to_z-of_z last_subtracts) i) (read p))

  sum_read : read z +ℤ read p ≡ z +ℤ p
  sum_read = ap₂ ◌+ℤ◌ (to_z-of_z f) (to_z-of_z g)

  module _ (h : outside first_count last_count (z +ℤ p) ≡ false) where
    pub sum_fits : SFits w64 (read z +ℤ read p)
    sum_fits = subst (SFits w64) (sym sum_read) (count_fits (z +ℤ p) h)

    pub sum_is : read (read z +ℤ read p) ≡ z +ℤ p
    sum_is = to_z-of_z sum_fits ∙ sum_read
