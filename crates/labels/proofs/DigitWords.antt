-- The numbers that the code puts together have digits and marks for bytes.
use Rattle.std.proofs.Common.{◌≡◌, ℕ, ◌+◌, ◌-◌, ◌*◌, ◌/◌, ◌%◌, ◌^◌, ◌<◌, ◌≤◌, List, [], ◌∷◌, ◌++◌, refl, ap, ◌∙◌, arith}
use native.Mathlib.Nat.{div-div-eq-div-mul}
use lib.Bits.{bit_and}
use Rattle.text.specs.Decimal.{digits}
use Rattle.text.specs.Words.{word, bytes_of}
use Rattle.text.proofs.Words.{all_bytes}
use Rattle.labels.proofs.Cells.{Cell, pair, mark, PairsBelow, placed, zeroed, text, tens_small, digits_of}

-- a digit after the ones behind it are cut off, and before
pub place_1000 : (n : ℕ) → n / 10 / 10 / 10 ≡ n / 1000
place_1000 n = rw (div-div-eq-div-mul n 10 10, div-div-eq-div-mul n 100 10)

pub place_100 : (n : ℕ) → n / 10 / 10 ≡ n / 100
place_100 n = rw (div-div-eq-div-mul n 10 10)

module _ (n : ℕ) (h : n < 10000) where
  abbrev two_pairs : List Cell
  two_pairs = pair (n / 100) ∷ pair (n % 100) ∷ []

  both_below : PairsBelow two_pairs
  both_below = (omega arith, (omega arith, tt))

  pub both_text : text two_pairs ≡ digits n 4
  both_text =
      let a : n / 100 / 10 % 10 ≡ n / 10 / 10 / 10 % 10 = rw (place_1000 n) (omega arith) in
      let b : n / 100 % 10 ≡ n / 10 / 10 % 10 = rw (place_100 n) in
      let d : n % 100 / 10 % 10 ≡ n / 10 % 10 = omega arith in
      let e : n % 100 % 10 ≡ n % 10 = omega arith in
      cc

  -- with the hundreds as the code has them
  module _ {q : ℕ} (e : q ≡ n / 100) where
    abbrev pairs : ℕ
    pairs = (n - 100 * q) * 65536 + q

    both_placed : pairs ≡ placed two_pairs
    both_placed = omega arith

    pub four_small : 2559 * bit_and (pairs * 103 / 1024) 983055 ≤ 256 * pairs
    four_small = tens_small two_pairs both_below both_placed

    pub four_digits : 256 * pairs - 2559 * bit_and (pairs * 103 / 1024) 983055 + 808464432 ≡ word (digits n 4)
    four_digits = digits_of two_pairs both_below both_placed (omega arith) ∙ ap word both_text

  pub four_stored : {r : ℕ} → r ≡ word (digits n 4) → bytes_of 4 r ≡ digits n 4
  four_stored e = all_bytes (digits n 4) e (omega arith, (omega arith, (omega arith, (omega arith, tt)))) refl

pub four_below : (n : ℕ) {r : ℕ} → r ≡ word (digits n 4) → r < 2 ^ 32
four_below n e = omega (arith, e)

module _ (a x b y c : ℕ) (ha : a < 100) (hb : b < 100) (hc : c < 100) where
  abbrev cells : List Cell
  cells = pair a ∷ mark x ∷ pair b ∷ mark y ∷ pair c ∷ []

  placed_is : c * 281474976710656 + b * 16777216 + a ≡ placed cells
  placed_is = omega arith

  zeroed_is : y * 1099511627776 + x * 65536 + 3472275519666401328 ≡ zeroed cells
  zeroed_is = omega arith

  pub pairs_small :
      2559 * bit_and ((c * 281474976710656 + b * 16777216 + a) * 103 / 1024) 4222124902318095 ≤ 256 * (c * 281474976710656 + b * 16777216 + a)
  pairs_small = tens_small cells (ha, (hb, (hc, tt))) placed_is

  pub pairs_digits :
      256 * (c * 281474976710656 + b * 16777216 + a) - 2559 * bit_and ((c * 281474976710656 + b * 16777216 + a) * 103 / 1024) 4222124902318095
      + (y * 1099511627776 + x * 65536 + 3472275519666401328) ≡ word (digits a 2 ++ x ∷ digits b 2 ++ y ∷ digits c 2)
  pairs_digits = digits_of cells (ha, (hb, (hc, tt))) placed_is zeroed_is

  pub pairs_stored :
      x ≤ 255 → y ≤ 255 → {r : ℕ} → r ≡ word (digits a 2 ++ x ∷ digits b 2 ++ y ∷ digits c 2) → bytes_of 8 r ≡ digits a 2 ++ x ∷ digits b 2 ++ y ∷ digits c 2
  pairs_stored hx hy e =
      all_bytes (digits a 2 ++ x ∷ digits b 2 ++ y ∷ digits c 2) e
      (omega arith, (omega arith, (hx, (omega arith, (omega arith, (hy, (omega arith, (omega arith, tt)))))))) refl
