-- One byte against that of a shape without T and Z: where it fits, it differs by the value of a digit at most.
use Rattle.std.proofs.Common.{◌≡◌, ℕ, ◌+◌, ◌-◌, ◌*◌, ◌/◌, ◌%◌, ◌<◌, ◌≤◌, Bool, true, false, cond, ◌&&◌, ◌||◌, eqb, sym, refl, ap, ◌∙◌, ap₂, arith, lit<, eq-eqb, eqb-true, le-leb}
use lib.Bits.{bit_xor, xor_block, xor_zero_r, xor_self, xor_add_and, and_le_l, and_le_r}
use Rattle.text.specs.Decimal.{is_digit}
use Rattle.labels.specs.Digits.{has_small, small, fits_one}
use Rattle.text.proofs.Decimal.{digit_range}

-- numbers that do not differ in a bit are equal
same : (a b : ℕ) → bit_xor a b ≡ 0 → a ≡ b
same a b e = omega (arith, xor_add_and a b, and_le_l a b, and_le_r a b)

digit_gap : (b : ℕ) → bit_xor b 48 ≡ bit_xor (b / 16) 3 * 16 + b % 16
digit_gap b =
    let e : b ≡ b / 16 * 16 + b % 16 = omega arith in
    let l : b % 16 < 16 = omega arith in
    ap (λ b. bit_xor b 48) e
    ∙ xor_block 4 (b / 16) 3 (b % 16) 0 l (lit< tt)
    ∙ ap (λ r. bit_xor (b / 16) 3 * 16 + r) (xor_zero_r (b % 16))

-- a mark that is one byte
pub one_byte : (s b : ℕ) → has_small s ≡ false → fits_one s b ≡ cond (eqb s 48) (is_digit b) (eqb b s)
one_byte s b e = ap (λ t. cond (eqb s 48) (is_digit b) ((t && eqb b (small s)) || eqb b s)) e

module _ (s b : ℕ) (one : has_small s ≡ false) where
  -- the value of a byte that fits is that of a digit, and 0 at a mark
  pub value_near : fits_one s b ≡ true → b - s ≤ cond (eqb s 48) 9 0
  value_near h = go (eqb s 48) refl (sym (one_byte s b one) ∙ h)
    where
      go : (d : Bool) → eqb s 48 ≡ d → cond d (is_digit b) (eqb b s) ≡ true → b - s ≤ cond d 9 0
      go true d h = let r = digit_range b h in omega (arith, eqb-true s 48 d, r.1)
      go false d h = omega (arith, eqb-true b s h)

  -- what fits differs by its value
  pub gap_is : fits_one s b ≡ true → bit_xor b s ≡ b - s
  gap_is h = go (eqb s 48) refl (sym (one_byte s b one) ∙ h)
    where
      go : (d : Bool) → eqb s 48 ≡ d → cond d (is_digit b) (eqb b s) ≡ true → bit_xor b s ≡ b - s
      go true d h =
          let r = digit_range b h in
          let q : b / 16 ≡ 3 = omega (arith, r.0, r.1) in
          let g : bit_xor b 48 ≡ b - 48 = digit_gap b ∙ ap (λ q. bit_xor q 3 * 16 + b % 16) q ∙ omega (arith, r.0, r.1) in
          rw (eqb-true s 48 d) g
      go false d h = let e = eqb-true b s h in ap (λ b. bit_xor b s) e ∙ xor_self s ∙ omega arith

  -- what differs by the value of a digit where a digit stands, and nowhere at a mark, fits
  pub near_fits : bit_xor b s ≤ cond (eqb s 48) 9 0 → fits_one s b ≡ true
  near_fits h = one_byte s b one ∙ go (eqb s 48) refl h
    where
      go : (d : Bool) → eqb s 48 ≡ d → bit_xor b s ≤ cond d 9 0 → cond d (is_digit b) (eqb b s) ≡ true
      go true d h =
          let g : bit_xor b s ≡ bit_xor (b / 16) 3 * 16 + b % 16 = ap (bit_xor b) (eqb-true s 48 d) ∙ digit_gap b in
          let q = same (b / 16) 3 (omega (arith, g, h)) in
          ap₂ ◌&&◌ (le-leb 48 b (omega (arith, q))) (le-leb b 57 (omega (arith, q, g, h)))
      go false d h = eq-eqb b s (same b s (omega (arith, h)))
