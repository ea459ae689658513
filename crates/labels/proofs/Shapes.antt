-- Texts of one shape.
use Rattle.std.proofs.Common.{◌≡◌, ℕ, zero, suc, ◌+◌, ◌/◌, ◌%◌, Bool, true, false, ◌&&◌, ◌||◌, eqb, List, [], ◌∷◌, ◌++◌, length, take, drop, replicate, sym, refl, ap, ◌∙◌, ap₂, ⊎_elim, take-append-drop, drop-drop, eqb-true}
use mathlib.Core.Bool.{and_assoc}
use Rattle.numbers.proofs.Bools.{no_both, and_left, and_right}
use Rattle.text.specs.Decimal.{digits, number, is_digit}
use Rattle.labels.specs.Digits.{letter_t, letter_z, has_small, small, fits_one, fits}
use Rattle.labels.specs.Clock.{colon, point}
use Rattle.labels.specs.Capitals.{capital, in_capitals}
use Rattle.text.specs.Words.{part_of}
use Rattle.text.specs.Decimal.{all_digits}
use Rattle.labels.specs.Timings.{letter_is}
use Rattle.text.proofs.Decimal.{is_digit_lem, digits_number, length_digits}

-- `HH:MM:SS` and `.mmm`
abbrev pub clock_shape : List ℕ
clock_shape = 48 ∷ 48 ∷ colon ∷ 48 ∷ 48 ∷ colon ∷ 48 ∷ 48 ∷ []

abbrev pub fraction_shape : List ℕ
fraction_shape = point ∷ 48 ∷ 48 ∷ 48 ∷ []

-- a text that fits is as long as the shape
pub fits_length : (shape text : List ℕ) → fits shape text ≡ true → length shape ≡ length text
fits_length [] [] h = refl
fits_length [] (b ∷ bs) h = no_both false h refl
fits_length (s ∷ ss) [] h = no_both false h refl
fits_length (s ∷ ss) (b ∷ bs) h = ap suc (fits_length ss bs (and_right (fits_one s b) (fits ss bs) h))

pub uneven : (shape text : List ℕ) → (length shape ≡ length text → ⊥) → fits shape text ≡ false
uneven shape text h = go (fits shape text) refl
  where
    go : (t : Bool) → fits shape text ≡ t → t ≡ false
    go true e = absurd (h (fits_length shape text e))
    go false e = refl

-- ---- a shape of two parts

pub fits_append : (a b text : List ℕ) → fits (a ++ b) text ≡ fits a (take (length a) text) && fits b (drop (length a) text)
fits_append [] b text = refl
fits_append (s ∷ a) b [] = refl
fits_append (s ∷ a) b (x ∷ text) = ap (λ t. fits_one s x && t) (fits_append a b text) ∙ sym (and_assoc (fits_one s x) _ _)

-- the same from byte i of a text on
pub fits_from :
    (shape more text : List ℕ) (i : ℕ) → fits (shape ++ more) (drop i text) ≡ fits shape (part_of i (length shape) text) && fits more (drop (i + length shape) text)
fits_from shape more text i = fits_append shape more (drop i text) ∙ ap (λ l. fits shape (part_of i (length shape) text) && fits more l) (drop-drop (length shape) i text)

-- a shape of three parts, in two that have the second in common
pub fits_overlap :
    (a b c text : List ℕ) → fits (a ++ (b ++ c)) text ≡ fits (a ++ b) (take (length (a ++ b)) text) && fits (b ++ c) (drop (length a) text)
fits_overlap a b c text =
    let rest = drop (length a) text in
    fits_append a (b ++ c) text
    ∙ ap (λ t. fits a (take (length a) text) && t) (again (fits (b ++ c) rest) (fits b (take (length b) rest)) (fits c (drop (length b) rest)) (fits_append b c rest))
    ∙ sym (and_assoc (fits a (take (length a) text)) _ _)
    ∙ ap (λ t. t && fits (b ++ c) (drop (length a) text)) (sym (front a text))
  where
    again : (x y z : Bool) → x ≡ y && z → x ≡ y && x
    again x true z e = refl
    again x false z e = e

    front : (a text : List ℕ) → fits (a ++ b) (take (length (a ++ b)) text) ≡ fits a (take (length a) text) && fits b (take (length b) (drop (length a) text))
    front [] text = refl
    front (s ∷ a) [] = refl
    front (s ∷ a) (x ∷ text) = ap (λ t. fits_one s x && t) (front a text) ∙ sym (and_assoc (fits_one s x) _ _)

-- ---- letters

-- the capital of what fits a letter is the letter
capital_letter : (letter byte : ℕ) → has_small letter ≡ true → fits_one letter byte ≡ true → capital byte ≡ letter
capital_letter letter byte two f = ⊎_elim (λ e. at e (of letter_t refl refl (told e f))) (λ e. at e (of letter_z refl refl (told e f))) (letter_is letter two)
  where
    told : {l : ℕ} → letter ≡ l → fits_one letter byte ≡ true → fits_one l byte ≡ true
    told e f = ap (λ l. fits_one l byte) (sym e) ∙ f

    at : {l : ℕ} → letter ≡ l → capital byte ≡ l → capital byte ≡ letter
    at e c = c ∙ sym e

    of : (letter : ℕ) → capital (small letter) ≡ letter → capital letter ≡ letter → (eqb byte (small letter) || eqb byte letter) ≡ true → capital byte ≡ letter
    of letter c d = by (eqb byte (small letter)) refl
      where
        by : (t : Bool) → eqb byte (small letter) ≡ t → (t || eqb byte letter) ≡ true → capital byte ≡ letter
        by true e h = ap capital (eqb-true byte (small letter) e) ∙ c
        by false e h = ap capital (eqb-true byte letter h) ∙ d

-- ---- a shape of digits

pub zeros : (count : ℕ) → digits 0 count ≡ replicate count 48
zeros zero = refl
zeros (suc count) = ap (λ (l : List ℕ). l ++ 48 ∷ []) (zeros count) ∙ snoc count
  where
    snoc : (n : ℕ) → ◌≡◌ {A = List ℕ} (replicate n 48 ++ 48 ∷ []) (48 ∷ replicate n 48)
    snoc zero = refl
    snoc (suc n) = ap (λ (l : List ℕ). 48 ∷ l) (snoc n)

zeros_fit : (count : ℕ) (text : List ℕ) → fits (replicate count 48) text ≡ true → (length text ≡ count) × (all_digits text ≡ true)
zeros_fit zero [] h = (refl, refl)
zeros_fit zero (b ∷ bs) h = no_both false h refl
zeros_fit (suc count) [] h = no_both false h refl
zeros_fit (suc count) (b ∷ bs) h =
    let r = zeros_fit count bs (and_right (is_digit b) _ h) in
    (ap suc r.0, ap₂ ◌&&◌ (and_left (is_digit b) _ h) r.1)

-- digits at the front of a text that fits, and a mark there, from byte i of the text on
module _ (text : List ℕ) (i : ℕ) (shape : List ℕ) where
  pub digits_front :
      (count : ℕ) → fits (digits 0 count ++ shape) (drop i text) ≡ true →
      (drop i text ≡ digits (number (take count (drop i text))) count ++ drop (i + count) text) × (fits shape (drop (i + count) text) ≡ true)
  digits_front count h =
      let f = rw (fits_append (digits 0 count) shape (drop i text), length_digits 0 count) at h in
      let z = zeros_fit count (take count (drop i text)) (sym (ap (λ s. fits s (take count (drop i text))) (zeros count)) ∙ and_left _ _ f) in
      let d = digits_number (take count (drop i text)) count z.0 z.1 in
      let e : drop count (drop i text) ≡ drop (i + count) text = drop-drop count i text in
      (sym (take-append-drop count (drop i text)) ∙ ap₂ ◌++◌ (sym d) e, sym (ap (fits shape) e) ∙ and_right (fits (digits 0 count) (take count (drop i text))) _ f)

  -- the byte of a mark, and what stands behind it
  record Front (mark : ℕ) : Type 0 where
    byte : ℕ
    byte_fits : fits_one mark byte ≡ true
    front_is : drop i text ≡ byte ∷ drop (i + 1) text
    rest_fits : fits shape (drop (i + 1) text) ≡ true

  front : (mark : ℕ) → fits (mark ∷ shape) (drop i text) ≡ true → Front mark
  front mark h = go (drop i text) refl h
    where
      go : (l : List ℕ) → drop i text ≡ l → fits (mark ∷ shape) l ≡ true → Front mark
      go [] e h = no_both false h refl
      go (b ∷ bs) e h =
          let r : drop (i + 1) text ≡ bs = sym (drop-drop 1 i text) ∙ ap (drop 1) e in
          record {
            byte = b;
            byte_fits = and_left (fits_one mark b) (fits shape bs) h;
            front_is = e ∙ ap (λ l. b ∷ l) (sym r);
            rest_fits = ap (fits shape) r ∙ and_right (fits_one mark b) (fits shape bs) h;
          }

  -- of one byte, and a letter, of which the capital can be told
  pub mark_front :
      (mark : ℕ) → eqb mark 48 ≡ false → has_small mark ≡ false → fits (mark ∷ shape) (drop i text) ≡ true →
      (drop i text ≡ mark ∷ drop (i + 1) text) × (fits shape (drop (i + 1) text) ≡ true)
  mark_front mark m one h =
      let f = front mark h in
      (f.front_is ∙ ap (λ b. b ∷ drop (i + 1) text) (eqb-true f.byte mark (rw (m, one) at f.byte_fits)), f.rest_fits)

  pub letter_front :
      (letter : ℕ) → has_small letter ≡ true → fits (letter ∷ shape) (drop i text) ≡ true →
      (in_capitals (drop i text) ≡ letter ∷ in_capitals (drop (i + 1) text)) × (fits shape (drop (i + 1) text) ≡ true)
  letter_front letter two h =
      let f = front letter h in
      (ap in_capitals f.front_is ∙ ap (λ b. b ∷ in_capitals (drop (i + 1) text)) (capital_letter letter f.byte two f.byte_fits), f.rest_fits)

-- ---- texts that fit

pub fits_both : (a b x y : List ℕ) → fits a x ≡ true → fits b y ≡ true → fits (a ++ b) (x ++ y) ≡ true
fits_both [] b [] y h k = k
fits_both [] b (t ∷ x) y h k = no_both false h refl
fits_both (s ∷ a) b [] y h k = no_both false h refl
fits_both (s ∷ a) b (t ∷ x) y h k =
    ap₂ ◌&&◌ (and_left (fits_one s t) (fits a x) h) (fits_both a b x y (and_right (fits_one s t) (fits a x) h) k)

pub digits_fit : (n count : ℕ) → fits (digits 0 count) (digits n count) ≡ true
digits_fit n zero = refl
digits_fit n (suc count) =
    fits_both (digits 0 count) (48 ∷ []) (digits (n / 10) count) ((48 + n % 10) ∷ []) (digits_fit (n / 10) count) (ap (λ t. t && true) (is_digit_lem n))

pub fits_nothing : (text : List ℕ) → fits [] text ≡ true → text ≡ []
fits_nothing [] h = refl
fits_nothing (b ∷ bs) h = no_both false h refl
