-- Floored quotients keep the order, and undo a product with a remainder added; remainders add up.
use Prim.Native.Nat.{ℕ, zero, suc, ◌+◌, ◌-◌, ◌*◌, ◌/◌, ◌%◌, ◌≤◌, ◌<◌}
use mathlib.Core.Path.{◌≡◌, refl, sym, ap, ap₂, ◌∙◌}
use mathlib.Core.Bool.{false, true}
use native.Mathlib.Nat.{div-add-mod', mod-lt, div-mul-le_self, div-eq_of_lt-le, mod-eq_of_lt, mul-add-mod_self_right, le-div_iff_mul-le}
use native.Mathlib.Omega.{arith}
use lib.IntN.{ℤ, pos, negsuc, ◌+ℤ◌, ◌-ℤ◌, ◌*ℤ◌, +ℤ_idr, +ℤ_assoc, +ℤ_comm, +ℤ-suc_ℤ, suc_ℤ-*ℤ, +ℤ-neg_ℤ_cancel, -ℤ-+ℤ_cancel}
use lib.Signed.{lt_z}
use borrow.Author.Tests.{ltb-false, le-ltb}
use Rattle.numbers.specs.Floor.{floor_quotient, floor_remainder}
use Rattle.numbers.proofs.Floor.{neg_add, quotient_and_remainder}
use Rattle.numbers.proofs.Integers.{above, not_below}
use Rattle.numbers.proofs.Bools.{no_both, same_no}

div_monotone : (a b d : ℕ) → 0 < d → a ≤ b → a / d ≤ b / d
div_monotone a b d h l = (le-div_iff_mul-le h).1 (omega (arith, div-mul-le_self a d))

-- b not below a: then its quotient is not below that of a
pub quotient_monotone : (a b : ℤ) (d : ℕ) → 0 < d → lt_z b a ≡ false → lt_z (floor_quotient b d) (floor_quotient a d) ≡ false
quotient_monotone (pos a) (pos b) d h l = le-ltb (b / d) (a / d) (div_monotone a b d h (ltb-false b a l))
quotient_monotone (pos a) (negsuc b) d h l = no_both true refl l
quotient_monotone (negsuc a) (pos b) d h l = refl
quotient_monotone (negsuc a) (negsuc b) d h l = le-ltb (a / d) (b / d) (div_monotone b a d h (ltb-false a b l))

module _ (d r : ℕ) (h : r < d) where
  -- a multiple of d, less r + 1
  less : (q : ℕ) → negsuc q *ℤ pos d +ℤ pos r ≡ negsuc (q * d + (d - suc r))
  less q = neg_add (suc q * d) r (omega arith) ∙ ap negsuc (omega arith)

  quotient_at : (q s : ℕ) → s < d → (q * d + s) / d ≡ q
  quotient_at q s l = div-eq_of_lt-le d (omega arith) (omega arith)

  remainder_at : (q s : ℕ) → s < d → (q * d + s) % d ≡ s
  remainder_at q s l = mul-add-mod_self_right q d s ∙ mod-eq_of_lt l

  pub quotient_is : (z : ℤ) → floor_quotient (z *ℤ pos d +ℤ pos r) d ≡ z
  quotient_is (pos q) = ap pos (quotient_at q r h)
  quotient_is (negsuc q) = ap (λ z. floor_quotient z d) (less q) ∙ ap negsuc (quotient_at q (d - suc r) (omega arith))

  pub remainder_is : (z : ℤ) → floor_remainder (z *ℤ pos d +ℤ pos r) d ≡ r
  remainder_is (pos q) = remainder_at q r h
  remainder_is (negsuc q) =
      let e = remainder_at q (d - suc r) (omega arith) in
      ap (λ z. floor_remainder z d) (less q) ∙ omega arith

-- a product of a sum
pub mul_add : (z : ℤ) (n d : ℕ) → (z +ℤ pos n) *ℤ pos d ≡ z *ℤ pos d +ℤ pos (n * d)
mul_add z zero d = ap (λ (y : ℤ). y *ℤ pos d) (+ℤ_idr z) ∙ sym (ap (λ (n : ℕ). z *ℤ pos d +ℤ pos n) (omega arith) ∙ +ℤ_idr (z *ℤ pos d))
mul_add z (suc n) d =
    ap (λ (y : ℤ). y *ℤ pos d) (+ℤ-suc_ℤ z (pos n)) ∙ suc_ℤ-*ℤ (z +ℤ pos n) (pos d) ∙ ap (λ (y : ℤ). y +ℤ pos d) (mul_add z n d)
    ∙ +ℤ_assoc (z *ℤ pos d) (pos (n * d)) (pos d)
    ∙ ap (λ (n : ℕ). z *ℤ pos d +ℤ pos n) (omega arith)

-- a quotient is below q exactly if the number is below q times d
pub quotient_below : (z q : ℤ) (d : ℕ) → 0 < d → lt_z (floor_quotient z d) q ≡ lt_z z (q *ℤ pos d)
quotient_below z q d h =
    same_no (lt_z (floor_quotient z d) q) (lt_z z (q *ℤ pos d))
    (λ p. let n = above q (floor_quotient z d) p in ap (λ (y : ℤ). lt_z y (q *ℤ pos d)) (from_product n.0 n.1) ∙ not_below (q *ℤ pos d) (n.0 * d + floor_remainder z d))
    (λ r. ap (lt_z (floor_quotient z d)) (sym (quotient_is d 0 h q) ∙ ap (λ (y : ℤ). floor_quotient y d) (+ℤ_idr (q *ℤ pos d))) ∙ quotient_monotone (q *ℤ pos d) z d h r)
  where
    from_product : (n : ℕ) → floor_quotient z d ≡ q +ℤ pos n → z ≡ q *ℤ pos d +ℤ pos (n * d + floor_remainder z d)
    from_product n e =
        sym (quotient_and_remainder z d h) ∙ ap (λ (y : ℤ). y *ℤ pos d +ℤ pos (floor_remainder z d)) e
        ∙ ap (λ (y : ℤ). y +ℤ pos (floor_remainder z d)) (mul_add q n d) ∙ +ℤ_assoc (q *ℤ pos d) (pos (n * d)) (pos (floor_remainder z d))

mul_sum : (a b : ℤ) (d : ℕ) → (a +ℤ b) *ℤ pos d ≡ a *ℤ pos d +ℤ b *ℤ pos d
mul_sum a (pos n) d = mul_add a n d
mul_sum a (negsuc n) d =
    let z = a +ℤ negsuc n in
    let whole = sym (ap (λ (y : ℤ). y *ℤ pos d) (-ℤ-+ℤ_cancel a (pos (suc n)))) ∙ mul_add z (suc n) d in
    sym (ap (λ (y : ℤ). y -ℤ pos (suc n * d)) whole ∙ +ℤ-neg_ℤ_cancel (z *ℤ pos d) (pos (suc n * d)))

-- the remainder of a sum
module _ (d : ℕ) (h : 0 < d) where
  regroup : (a b : ℤ) (r s : ℕ) → (a +ℤ pos r) +ℤ (b +ℤ pos s) ≡ (a +ℤ b) +ℤ pos (r + s)
  regroup a b r s =
      +ℤ_assoc a (pos r) (b +ℤ pos s)
      ∙ ap (λ y. a +ℤ y) (sym (+ℤ_assoc (pos r) b (pos s)) ∙ ap (λ y. y +ℤ pos s) (+ℤ_comm (pos r) b) ∙ +ℤ_assoc b (pos r) (pos s))
      ∙ sym (+ℤ_assoc a b (pos (r + s)))

  carried : (z : ℤ) (n : ℕ) → floor_remainder (z *ℤ pos d +ℤ pos n) d ≡ n % d
  carried z n =
      ap (λ y. floor_remainder y d)
      (ap (λ m. z *ℤ pos d +ℤ pos m) (sym (div-add-mod' n d)) ∙ sym (+ℤ_assoc (z *ℤ pos d) (pos (n / d * d)) (pos (n % d)))
      ∙ ap (λ y. y +ℤ pos (n % d)) (sym (mul_add z (n / d) d)))
      ∙ remainder_is d (n % d) (mod-lt n h) (z +ℤ pos (n / d))

  pub remainder_add : (z p : ℤ) → floor_remainder (z +ℤ p) d ≡ (floor_remainder z d + floor_remainder p d) % d
  remainder_add z p =
      let q = floor_quotient z d in
      let s = floor_quotient p d in
      ap (λ y. floor_remainder y d)
      (ap₂ ◌+ℤ◌ (sym (quotient_and_remainder z d h)) (sym (quotient_and_remainder p d h))
      ∙ regroup (q *ℤ pos d) (s *ℤ pos d) (floor_remainder z d) (floor_remainder p d)
      ∙ ap (λ y. y +ℤ pos (floor_remainder z d + floor_remainder p d)) (sym (mul_sum q s d)))
      ∙ carried (q +ℤ s) (floor_remainder z d + floor_remainder p d)
