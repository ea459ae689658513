-- Small letters: every label is answered as document 01's reader answers it in capitals, and refusal 8 shrinks by the forms with small
-- letters.
use Rattle.std.proofs.Common.{◌≡◌, ℕ, ◌+◌, ◌<◌, ◌≤◌, Bool, true, false, cond, not, ◌&&◌, ◌||◌, eqb, ◌↔◌, List, [], ◌∷◌, ◌++◌, length, get_or, take, drop, ℤ, sym, refl, ap, ◌∙◌, ap₂, ⊎_elim, arith, take-append-drop, drop_of_length-le, drop-cons, drop-drop, ne_eqb, eqb-true}
use mathlib.Core.Bool.{and-false}
use mathlib.Core.List.{map-append}
use borrow.Author.Tests.{eqb-false, not-true}
use Rattle.refusal.specs.Outcome.{Outcome, refused}
use Rattle.numbers.proofs.Bools.{no_both, or_no, and_left, and_right}
use Rattle.labels.specs.Clock.{colon, clock_text}
use Rattle.text.specs.Decimal.{digits, is_digit}
use Rattle.labels.specs.Digits.{letter_t, letter_z, has_small, small, is_mark, fits_one, fits}
use Rattle.text.specs.Words.{part_of}
use Rattle.labels.specs.Words.{simple}
use Rattle.labels.specs.Rfc3339.{decimals, date_shape, time_shape, read_fields, read_answer}
use Rattle.labels.specs.Capitals.{capital, in_capitals, fits_exactly, capitals_answer, is_small_form}
use Rattle.labels.specs.Timings.{letter_is}
use Rattle.text.proofs.Decimal.{digit_range}
use Rattle.labels.proofs.OneByte.{one_byte}
use Rattle.labels.proofs.Gaps.{simple_first, simple_rest}
use Rattle.labels.proofs.Shapes.{fits_length, fits_append, fits_from}
use Rattle.labels.proofs.Laws.{capitals_fields, eight_if, eight_exactly}

-- ---- the four forms

distribute : (c p q : Bool) → c && (p || q) ≡ (c && p) || (c && q)
distribute true p q = refl
distribute false p q = refl

-- a shape without letters and a Z
ends : (shape text : List ℕ) → simple shape ≡ true →
    fits (shape ++ letter_z ∷ []) text ≡ fits_exactly (shape ++ letter_z ∷ []) text || fits_exactly (shape ++ small letter_z ∷ []) text
ends [] [] p = refl
ends [] (b ∷ []) p = go (eqb b (small letter_z)) (eqb b letter_z)
  where
    go : (t u : Bool) → (t || u) && true ≡ (u && true) || (t && true)
    go true true = refl
    go true false = refl
    go false true = refl
    go false false = refl
ends [] (b ∷ c ∷ cs) p = and-false (fits_one letter_z b) ∙ sym (ap₂ ◌||◌ (and-false (eqb b letter_z)) (and-false (eqb b (small letter_z))))
ends (s ∷ ss) [] p = refl
ends (s ∷ ss) (b ∷ bs) p =
    ap₂ ◌&&◌ (one_byte s b (simple_first s ss p)) (ends ss bs (simple_rest s ss p))
    ∙ distribute (cond (eqb s 48) (is_digit b) (eqb b s)) (fits_exactly (ss ++ letter_z ∷ []) bs) (fits_exactly (ss ++ small letter_z ∷ []) bs)

-- two shapes without letters, with a T between them and a Z at the end
module _ (back : List ℕ) (q : simple back ≡ true) where
  abbrev form : (front : List ℕ) (t z : ℕ) → List ℕ
  form front t z = front ++ t ∷ back ++ z ∷ []

  four_forms : (front text : List ℕ) → simple front ≡ true →
      fits (form front letter_t letter_z) text
      ≡ fits_exactly (form front letter_t letter_z) text
      || (fits_exactly (form front (small letter_t) letter_z) text
      || (fits_exactly (form front letter_t (small letter_z)) text || fits_exactly (form front (small letter_t) (small letter_z)) text))
  four_forms [] [] p = refl
  four_forms [] (b ∷ bs) p = ap (λ t. fits_one letter_t b && t) (ends back bs q) ∙ go (eqb b (small letter_t)) (eqb b letter_t) (fits_exactly (back ++ letter_z ∷ []) bs) (fits_exactly (back ++ small letter_z ∷ []) bs)
    where
      go : (t u v w : Bool) → (t || u) && (v || w) ≡ (u && v) || ((t && v) || ((u && w) || (t && w)))
      go true true true w = refl
      go true true false true = refl
      go true true false false = refl
      go true false true w = refl
      go true false false true = refl
      go true false false false = refl
      go false true true w = refl
      go false true false true = refl
      go false true false false = refl
      go false false v w = refl
  four_forms (s ∷ ss) [] p = refl
  four_forms (s ∷ ss) (b ∷ bs) p =
      ap₂ ◌&&◌ (one_byte s b (simple_first s ss p)) (four_forms ss bs (simple_rest s ss p))
      ∙ go (cond (eqb s 48) (is_digit b) (eqb b s)) (fits_exactly (form ss letter_t letter_z) bs) (fits_exactly (form ss (small letter_t) letter_z) bs)
      (fits_exactly (form ss letter_t (small letter_z)) bs) (fits_exactly (form ss (small letter_t) (small letter_z)) bs)
    where
      go : (c u v w x : Bool) → c && (u || (v || (w || x))) ≡ (c && u) || ((c && v) || ((c && w) || (c && x)))
      go true u v w x = refl
      go false u v w x = refl

-- ---- capitals

-- a byte that fits, made capital
one_capital :
    (s b : ℕ) → eqb s (small letter_t) ≡ false → eqb s (small letter_z) ≡ false → fits_one s b ≡ cond (eqb s 48) (is_digit (capital b)) (eqb (capital b) s)
one_capital s b no-t no-z = go (eqb b (small letter_t)) (eqb b (small letter_z)) refl refl
  where
    -- of a small letter
    of : (letter : ℕ) → is_digit (small letter) ≡ false → is_digit letter ≡ false → eqb s (small letter) ≡ false →
        is_mark letter_t (small letter) ≡ eqb letter letter_t → is_mark letter_z (small letter) ≡ eqb letter letter_z →
        has_small letter ≡ true → fits_one s (small letter) ≡ cond (eqb s 48) (is_digit letter) (eqb letter s)
    of letter d e n t z l = ap₂ (cond (eqb s 48)) (d ∙ sym e) (by (has_small s) refl)
      where
        at : {mark : ℕ} → is_mark mark (small letter) ≡ eqb letter mark → s ≡ mark → is_mark s (small letter) ≡ eqb letter s
        at e x = ap (λ s. is_mark s (small letter)) x ∙ e ∙ sym (ap (eqb letter) x)

        by : (u : Bool) → has_small s ≡ u → is_mark s (small letter) ≡ eqb letter s
        by true h = ⊎_elim (at t) (at z) (letter_is s h)
        by false h =
            ap (λ u. (u && eqb (small letter) (small s)) || eqb (small letter) s) h
            ∙ ne_eqb (small letter) s (λ x. eqb-false s (small letter) n (sym x))
            ∙ sym (ne_eqb letter s (λ x. no_both (has_small letter) l (ap has_small x ∙ h)))

    go : (p q : Bool) → eqb b (small letter_t) ≡ p → eqb b (small letter_z) ≡ q →
        fits_one s b ≡ cond (eqb s 48) (is_digit (cond p letter_t (cond q letter_z b))) (eqb (cond p letter_t (cond q letter_z b)) s)
    go true q e f = ap (fits_one s) (eqb-true b (small letter_t) e) ∙ of letter_t refl refl no-t refl refl refl
    go false true e f = ap (fits_one s) (eqb-true b (small letter_z) f) ∙ of letter_z refl refl no-z refl refl refl
    go false false e f = ap (cond (eqb s 48) (is_digit b)) (by (has_small s) refl)
      where
        by : (u : Bool) → has_small s ≡ u → is_mark s b ≡ eqb b s
        by true h =
            let n = ⊎_elim (λ x. ap (λ s. eqb b (small s)) x ∙ e) (λ x. ap (λ s. eqb b (small s)) x ∙ f) (letter_is s h) in
            ap₂ (λ u v. (u && v) || eqb b s) h n
        by false h = ap (λ u. (u && eqb b (small s)) || eqb b s) h

-- a shape that has no small t or z
abbrev no_small : List ℕ → Bool
no_small [] = true
no_small (s ∷ ss) = not (eqb s (small letter_t) || eqb s (small letter_z)) && no_small ss

first_not_small : (s : ℕ) (ss : List ℕ) → no_small (s ∷ ss) ≡ true → (eqb s (small letter_t) ≡ false) × (eqb s (small letter_z) ≡ false)
first_not_small s ss n =
    let is-small = eqb s (small letter_t) || eqb s (small letter_z) in
    or_no (eqb s (small letter_t)) (eqb s (small letter_z)) (not-true is-small (and_left (not is-small) (no_small ss) n))

rest_not_small : (s : ℕ) (ss : List ℕ) → no_small (s ∷ ss) ≡ true → no_small ss ≡ true
rest_not_small s ss n = and_right (not (eqb s (small letter_t) || eqb s (small letter_z))) (no_small ss) n

-- a text fits exactly if it fits in capitals
fits_capitals : (shape text : List ℕ) → no_small shape ≡ true → fits shape text ≡ fits_exactly shape (in_capitals text)
fits_capitals [] [] n = refl
fits_capitals [] (b ∷ bs) n = refl
fits_capitals (s ∷ ss) [] n = refl
fits_capitals (s ∷ ss) (b ∷ bs) n =
    let o = first_not_small s ss n in
    ap₂ ◌&&◌ (one_capital s b o.0 o.1) (fits_capitals ss bs (rest_not_small s ss n))

-- a text of a shape without T and Z, capital or small, has no small letter
no_letters : (shape text : List ℕ) → simple shape ≡ true → no_small shape ≡ true → fits shape text ≡ true → in_capitals text ≡ text
no_letters [] [] p n h = refl
no_letters [] (b ∷ bs) p n h = no_both false h refl
no_letters (s ∷ ss) [] p n h = no_both false h refl
no_letters (s ∷ ss) (b ∷ bs) p n h =
    let o = first_not_small s ss n in
    let f = sym (one_byte s b (simple_first s ss p)) ∙ and_left (fits_one s b) (fits ss bs) h in
    ap₂ ◌∷◌ (one (eqb s 48) o.0 o.1 f) (no_letters ss bs (simple_rest s ss p) (rest_not_small s ss n) (and_right (fits_one s b) (fits ss bs) h))
  where
    kept : (eqb b (small letter_t) ≡ false) → (eqb b (small letter_z) ≡ false) → capital b ≡ b
    kept t z = ap₂ (λ t z. cond t letter_t (cond z letter_z b)) t z

    one : (d : Bool) → eqb s (small letter_t) ≡ false → eqb s (small letter_z) ≡ false → cond d (is_digit b) (eqb b s) ≡ true → capital b ≡ b
    one true t z f =
        let r = digit_range b f in
        kept (ne_eqb b (small letter_t) (λ e. omega (arith, r.1, e))) (ne_eqb b (small letter_z) (λ e. omega (arith, r.1, e)))
    one false t z f = let e = eqb-true b s f in kept (ap (λ b. eqb b (small letter_t)) e ∙ t) (ap (λ b. eqb b (small letter_z)) e ∙ z)

module _ (label : List ℕ) where
  abbrev in_shape : Bool
  in_shape = fits (date_shape ++ time_shape decimals) label

  abbrev exactly : Bool
  exactly = fits_exactly (date_shape ++ time_shape decimals) label

  -- a label is of the shape exactly if it is in capitals, or of one of the forms with small letters
  pub in_shape_exactly : in_shape ≡ exactly || is_small_form label
  in_shape_exactly = four_forms (digits 0 2 ++ colon ∷ clock_text decimals 0 0 0) refl date_shape label refl

  -- the bytes between the letters, and the place of the last one
  abbrev inside : ℕ
  inside = 9 + decimals

  abbrev last_byte : ℕ
  last_byte = 11 + inside

  -- in capitals, such a label differs in byte 10 and in the last one at most
  pub two_letters :
      in_shape ≡ true → in_capitals label ≡ take 10 label ++ (capital (get_or label 10 0) ∷ (part_of 11 inside label ++ (capital (get_or label last_byte 0) ∷ [])))
  two_letters h =
      let middle = digits 0 2 ++ colon ∷ clock_text decimals 0 0 0 in
      let l = fits_length (date_shape ++ time_shape decimals) label h in
      let a : 10 < length label = omega arith in
      let b : last_byte < length label = omega arith in
      let c : length label ≤ last_byte + 1 = omega arith in
      let date = sym (fits_append date_shape (time_shape decimals) label) ∙ h in
      let time = sym (ap (fits (time_shape decimals)) (drop-cons label 10 0 a)) ∙ and_right (fits date_shape (take 10 label)) _ date in
      let rest = sym (fits_from middle (letter_z ∷ []) label 11) ∙ and_right (fits_one letter_t (get_or label 10 0)) _ time in
      let front : in_capitals (take 10 label) ≡ take 10 label = no_letters date_shape (take 10 label) refl refl (and_left (fits date_shape (take 10 label)) _ date) in
      let middle-same : in_capitals (part_of 11 inside label) ≡ part_of 11 inside label =
      no_letters middle (part_of 11 inside label) refl refl (and_left (fits middle (part_of 11 inside label)) _ rest) in
      let end : in_capitals (drop inside (drop 11 label)) ≡ capital (get_or label last_byte 0) ∷ [] =
      ap in_capitals (drop-drop inside 11 label ∙ drop-cons label last_byte 0 b) ∙ ap (λ r. capital (get_or label last_byte 0) ∷ in_capitals r) (drop_of_length-le label c) in
      let behind : in_capitals (drop 11 label) ≡ part_of 11 inside label ++ capital (get_or label last_byte 0) ∷ [] =
      ap in_capitals (sym (take-append-drop inside (drop 11 label)))
      ∙ map-append capital (part_of 11 inside label) (drop inside (drop 11 label))
      ∙ (λ i. middle-same i ++ end i) in
      let back : in_capitals (drop 10 label) ≡ capital (get_or label 10 0) ∷ (part_of 11 inside label ++ capital (get_or label last_byte 0) ∷ []) =
      ap in_capitals (drop-cons label 10 0 a) ∙ ap (λ r. capital (get_or label 10 0) ∷ r) behind in
      ap in_capitals (sym (take-append-drop 10 label)) ∙ map-append capital (take 10 label) (drop 10 label) ∙ (λ i. front i ++ back i)

  -- ---- what is read

  -- every label is answered as document 01's reader answers it in capitals
  pub read_in_capitals : read_answer label ≡ capitals_answer (in_capitals label)
  unfolding read_answer capitals_answer
  read_in_capitals = go in_shape refl ∙ ap (λ t. cond t (read_fields (in_capitals label) (drop 10 (in_capitals label))) (refused 8)) in_capitals_lem
    where
      in_capitals_lem : in_shape ≡ fits_exactly (date_shape ++ time_shape decimals) (in_capitals label)
      in_capitals_lem = fits_capitals (date_shape ++ time_shape decimals) label refl

      go : (t : Bool) → in_shape ≡ t →
          cond in_shape (read_fields label (drop 10 label)) (refused 8) ≡ cond in_shape (read_fields (in_capitals label) (drop 10 (in_capitals label))) (refused 8)
      go true h = ap (λ (z : Outcome ℤ). cond in_shape z (refused 8)) (sym (capitals_fields label h))
      go false h = ap (λ t. cond t (read_fields label (drop 10 label)) (refused 8)) h ∙ sym (ap (λ t. cond t (read_fields (in_capitals label) (drop 10 (in_capitals label))) (refused 8)) h)

  -- ---- refusal 8

  -- document 01's reader refuses with 8 exactly if the label is not of its shape
  before : (capitals_answer label ≡ refused 8) ↔ (exactly ≡ false)
  unfolding capitals_answer
  before = eight_if label exactly (λ h. in_shape_exactly ∙ ap (λ t. t || is_small_form label) h)

  -- a label is refused with 8 exactly if it was before and is none of the forms with small letters
  pub eight_shrinks : (read_answer label ≡ refused 8) ↔ ((capitals_answer label ≡ refused 8) × (is_small_form label ≡ false))
  eight_shrinks = (
    λ e. let n = or_no exactly (is_small_form label) (sym in_shape_exactly ∙ (eight_exactly label).0 e) in (before.1 n.0, n.1),
    λ e. (eight_exactly label).1 (in_shape_exactly ∙ ap₂ ◌||◌ (before.0 e.0) e.1),
  )

  -- a label that was not refused with 8 is answered as before
  pub others_stay : (capitals_answer label ≡ refused 8 → ⊥) → read_answer label ≡ capitals_answer label
  unfolding read_answer capitals_answer
  others_stay never = go exactly refl
    where
      go : (t : Bool) → exactly ≡ t →
          cond in_shape (read_fields label (drop 10 label)) (refused 8) ≡ cond t (read_fields label (drop 10 label)) (refused 8)
      go true h = ap (λ t. cond t (read_fields label (drop 10 label)) (refused 8)) (in_shape_exactly ∙ ap (λ t. t || is_small_form label) h)
      go false h = absurd (never (before.1 h))
