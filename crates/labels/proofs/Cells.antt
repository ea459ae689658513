-- The digits of several numbers below 100 at once. The numbers stand apart in one number, 16 bits for a pair of digits and 8 for a
-- mark, and 103 / 1024 of all of them gives the tens of each.
use Rattle.std.proofs.Common.{◌≡◌, ℕ, ◌+◌, ◌-◌, ◌*◌, ◌/◌, ◌%◌, ◌<◌, ◌≤◌, List, [], ◌∷◌, ◌++◌, refl, ap, ◌∙◌, ap₂, arith, lit<}
use lib.Bits.{bit_and, and_block, and_mask, and_zero_r}
use Rattle.text.specs.Decimal.{digits}
use Rattle.text.specs.Words.{word}
use Rattle.labels.proofs.Records as records

pub data Cell : Type 0 where
  pair : ℕ → Cell
  mark : ℕ → Cell

-- each number of two digits is below 100
abbrev pub PairsBelow : List Cell → Type 0
PairsBelow [] = Unit {0}
PairsBelow (pair n ∷ cs) = (n < 100) × PairsBelow cs
PairsBelow (mark x ∷ cs) = PairsBelow cs

-- the numbers, each in its place
abbrev pub placed : List Cell → ℕ
placed [] = 0
placed (pair n ∷ cs) = placed cs * 65536 + n
placed (mark x ∷ cs) = placed cs * 256

-- where the tens stand
abbrev pub lanes : List Cell → ℕ
lanes [] = 0
lanes (pair n ∷ cs) = lanes cs * 65536 + 15
lanes (mark x ∷ cs) = lanes cs * 256

abbrev pub tens : List Cell → ℕ
tens [] = 0
tens (pair n ∷ cs) = tens cs * 65536 + n / 10
tens (mark x ∷ cs) = tens cs * 256

-- the marks, with zeros for digits
abbrev pub zeroed : List Cell → ℕ
zeroed [] = 0
zeroed (pair n ∷ cs) = zeroed cs * 65536 + 12336
zeroed (mark x ∷ cs) = zeroed cs * 256 + x

abbrev pub text : List Cell → List ℕ
text [] = []
text (pair n ∷ cs) = digits n 2 ++ text cs
text (mark x ∷ cs) = x ∷ text cs

tens_are : (cs : List Cell) → PairsBelow cs → bit_and (placed cs * 103 / 1024) (lanes cs) ≡ tens cs
tens_are [] p = refl
tens_are (pair n ∷ cs) p =
    let h = p.0 in
    let x = placed cs * 103 in
    let low = x % 1024 * 64 + n / 10 in
    let t : n * 103 / 1024 ≡ n / 10 = records.tens_are n (omega arith) in
    let e : (placed cs * 65536 + n) * 103 / 1024 ≡ x / 1024 * 65536 + low = omega (arith, t) in
    let l : low < 65536 = omega arith in
    let m : low % 16 ≡ n / 10 = omega arith in
    ap (λ y. bit_and y (lanes cs * 65536 + 15)) e
    ∙ and_block 16 (x / 1024) (lanes cs) low 15 l (lit< tt)
    ∙ ap₂ (λ y z. y * 65536 + z) (tens_are cs p.1) (and_mask low 4 ∙ m)
tens_are (mark x ∷ cs) p =
    let y = placed cs * 103 in
    let e : placed cs * 256 * 103 / 1024 ≡ y / 1024 * 256 + y % 1024 / 4 = omega arith in
    let l : y % 1024 / 4 < 256 = omega arith in
    let z : lanes cs * 256 ≡ lanes cs * 256 + 0 = omega arith in
    ap₂ bit_and e z
    ∙ and_block 8 (y / 1024) (lanes cs) (y % 1024 / 4) 0 l (lit< tt)
    ∙ ap₂ (λ a b. a * 256 + b) (tens_are cs p) (and_zero_r (y % 1024 / 4))
    ∙ omega arith

digits_are : (cs : List Cell) → PairsBelow cs → word (text cs) + 2559 * tens cs ≡ 256 * placed cs + zeroed cs
digits_are [] p = refl
digits_are (pair n ∷ cs) p =
    let h = p.0 in
    let e = digits_are cs p.1 in
    omega arith
digits_are (mark x ∷ cs) p = let e = digits_are cs p in omega arith

tens_below : (cs : List Cell) → 2559 * tens cs ≤ 256 * placed cs
tens_below [] = omega arith
tens_below (pair n ∷ cs) = let h = tens_below cs in omega arith
tens_below (mark x ∷ cs) = let h = tens_below cs in omega arith

-- what the code computes, from the numbers in their places and their tens
module _ (cs : List Cell) (h : PairsBelow cs) {p : ℕ} (is : p ≡ placed cs) where
  tens_of : bit_and (p * 103 / 1024) (lanes cs) ≡ tens cs
  tens_of = ap (λ p. bit_and (p * 103 / 1024) (lanes cs)) is ∙ tens_are cs h

  pub tens_small : 2559 * bit_and (p * 103 / 1024) (lanes cs) ≤ 256 * p
  tens_small = rw (tens_of, is) (tens_below cs)

  pub digits_of : {z : ℕ} → z ≡ zeroed cs → 256 * p - 2559 * bit_and (p * 103 / 1024) (lanes cs) + z ≡ word (text cs)
  digits_of e = rw (tens_of, is, e) (subtract (word (text cs)) (tens cs) (placed cs) (zeroed cs) (digits_are cs h) (tens_below cs))
    where
      subtract : (w t p z : ℕ) → w + 2559 * t ≡ 256 * p + z → 2559 * t ≤ 256 * p → 256 * p - 2559 * t + z ≡ w
      subtract w t p z e l = omega arith
