-- The bytes of a text against those of a shape without T and Z, in numbers that hold all of them.
use Rattle.std.proofs.Common.{◌≡◌, ℕ, ◌+◌, ◌*◌, ◌<◌, ◌≤◌, Bool, true, false, cond, not, ◌&&◌, eqb, leb, List, [], ◌∷◌, length, refl, ap, ◌∙◌, ap₂, arith, leb-true}
use borrow.Author.Tests.{not-true}
use lib.Bits.{bit_xor, xor_block}
use Rattle.numbers.proofs.Bools.{and_left, and_right}
use Rattle.labels.specs.Digits.{has_small, fits_one, fits}
use Rattle.text.specs.Words.{word}
use Rattle.labels.specs.Words.{simple, above}
use Rattle.text.specs.Words.{AllLe}
use Rattle.labels.proofs.OneByte.{value_near, gap_is, near_fits}

abbrev pub gaps : (shape text : List ℕ) → List ℕ
gaps [] text = []
gaps (s ∷ ss) [] = []
gaps (s ∷ ss) (b ∷ bs) = bit_xor b s ∷ gaps ss bs

-- both are of one length, and all of both are bytes
abbrev pub Both : (shape text : List ℕ) → Type 0
Both shape text = (length shape ≡ length text) × (AllLe 255 shape × AllLe 255 text)

pub rest_both : (s b : ℕ) (ss bs : List ℕ) → Both (s ∷ ss) (b ∷ bs) → Both ss bs
rest_both s b ss bs h = (omega (arith, h.0), (h.1.0.1, h.1.1.1))

pub word_gaps : (shape text : List ℕ) → Both shape text → bit_xor (word text) (word shape) ≡ word (gaps shape text)
word_gaps [] [] h = refl
word_gaps [] (b ∷ bs) h = absurd (omega (arith, h.0))
word_gaps (s ∷ ss) [] h = absurd (omega (arith, h.0))
word_gaps (s ∷ ss) (b ∷ bs) h =
    let x : b < 256 = omega (arith, h.1.1.0) in
    let y : s < 256 = omega (arith, h.1.0.0) in
    xor_block 8 (word bs) (word ss) b s x y ∙ ap (λ r. r * 256 + bit_xor b s) (word_gaps ss bs (rest_both s b ss bs h))

-- ---- a shape without T and Z

-- its bytes are below 119, and its first is a mark that is one byte
pub simple_low : (shape : List ℕ) → simple shape ≡ true → AllLe 118 shape
simple_low [] p = tt
simple_low (s ∷ ss) p = (leb-true s 118 (and_left (leb s 118) _ p), simple_low ss (and_right (not (has_small s)) _ (and_right (leb s 118) _ p)))

pub simple_first : (s : ℕ) (ss : List ℕ) → simple (s ∷ ss) ≡ true → has_small s ≡ false
simple_first s ss p = not-true (has_small s) (and_left (not (has_small s)) _ (and_right (leb s 118) _ p))

pub simple_rest : (s : ℕ) (ss : List ℕ) → simple (s ∷ ss) ≡ true → simple ss ≡ true
simple_rest s ss p = and_right (not (has_small s)) _ (and_right (leb s 118) _ p)

-- the values of digits, and 0 at marks
abbrev pub AllNear : (shape l : List ℕ) → Type 0
AllNear [] l = Unit {0}
AllNear (s ∷ ss) [] = Unit {0}
AllNear (s ∷ ss) (x ∷ l) = (x ≤ cond (eqb s 48) 9 0) × AllNear ss l

-- a text fits exactly if it differs from the shape by values of digits, and nowhere at a mark; and these are its values then
pub all_near : (shape text : List ℕ) → simple shape ≡ true → fits shape text ≡ true → AllNear shape (above shape text)
all_near [] text p f = tt
all_near (s ∷ ss) [] p f = tt
all_near (s ∷ ss) (b ∷ bs) p f =
    (value_near s b (simple_first s ss p) (and_left (fits_one s b) (fits ss bs) f), all_near ss bs (simple_rest s ss p) (and_right (fits_one s b) (fits ss bs) f))

pub gaps_are : (shape text : List ℕ) → simple shape ≡ true → fits shape text ≡ true → gaps shape text ≡ above shape text
gaps_are [] text p f = refl
gaps_are (s ∷ ss) [] p f = refl
gaps_are (s ∷ ss) (b ∷ bs) p f =
    ap₂ ◌∷◌ (gap_is s b (simple_first s ss p) (and_left (fits_one s b) (fits ss bs) f)) (gaps_are ss bs (simple_rest s ss p) (and_right (fits_one s b) (fits ss bs) f))

pub near_all_fit : (shape text : List ℕ) → simple shape ≡ true → length shape ≡ length text → AllNear shape (gaps shape text) → fits shape text ≡ true
near_all_fit [] [] p h n = refl
near_all_fit [] (b ∷ bs) p h n = absurd (omega arith)
near_all_fit (s ∷ ss) [] p h n = absurd (omega arith)
near_all_fit (s ∷ ss) (b ∷ bs) p h n =
    ap₂ ◌&&◌ (near_fits s b (simple_first s ss p) n.0) (near_all_fit ss bs (simple_rest s ss p) (omega arith) n.1)

-- values that are near are at most 9
pub near_nines : (shape l : List ℕ) → length l ≤ length shape → AllNear shape l → AllLe 9 l
near_nines [] [] h n = tt
near_nines [] (x ∷ l) h n = absurd (omega arith)
near_nines (s ∷ ss) [] h n = tt
near_nines (s ∷ ss) (x ∷ l) h n = (go (eqb s 48) n.0, near_nines ss l (omega arith) n.1)
  where
    go : (d : Bool) → x ≤ cond d 9 0 → x ≤ 9
    go true h = h
    go false h = omega arith
