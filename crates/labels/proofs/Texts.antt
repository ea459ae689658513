-- Dates and times as text, both ways: a text of that shape is the text of its numbers, and the numbers of a text are those written.
use Rattle.std.proofs.Common.{◌≡◌, ℕ, zero, suc, ◌+◌, ◌/◌, ◌%◌, true, cond, List, [], ◌∷◌, ◌++◌, take, drop, sym, refl, ap, ◌∙◌, ap₂, arith, take_at, ne_eqb}
use mathlib.Core.List.{map-append}
use Rattle.labels.specs.Clock.{colon, point}
use Rattle.text.specs.Decimal.{digits, number}
use Rattle.labels.specs.Digits.{number_at, letter_t, letter_z, small, fits}
use Rattle.labels.specs.Capitals.{capital, in_capitals}
use Rattle.labels.specs.Rfc3339.{dash, date_text, time_text, date_shape, time_shape}
use Rattle.text.proofs.Decimal.{length_digits}
use Rattle.labels.proofs.Shapes.{digits_front, mark_front, letter_front, fits_both, digits_fit, fits_nothing}

-- ---- a text of the shape is the text of its numbers

pub date_back :
    (rest label : List ℕ) → fits (date_shape ++ rest) label ≡ true →
    (label ≡ date_text (number_at 0 4 label) (number_at 5 2 label) (number_at 8 2 label) ++ drop 10 label) × (fits rest (drop 10 label) ≡ true)
date_back rest label h =
    let y = digits_front label 0 (dash ∷ digits 0 2 ++ dash ∷ digits 0 2 ++ rest) 4 h in
    let a = mark_front label 4 (digits 0 2 ++ dash ∷ digits 0 2 ++ rest) dash refl refl y.1 in
    let m = digits_front label 5 (dash ∷ digits 0 2 ++ rest) 2 a.1 in
    let b = mark_front label 7 (digits 0 2 ++ rest) dash refl refl m.1 in
    let d = digits_front label 8 rest 2 b.1 in (
      y.0
          ∙ ap (λ l. digits (number_at 0 4 label) 4 ++ l)
          (a.0 ∙ ap (λ l. dash ∷ l) (m.0 ∙ ap (λ l. digits (number_at 5 2 label) 2 ++ l) (b.0 ∙ ap (λ l. dash ∷ l) d.0))),
      d.1,
    )

-- texts without letters are in capitals
capital_digits : (n count : ℕ) → in_capitals (digits n count) ≡ digits n count
capital_digits n zero = refl
capital_digits n (suc count) =
    map-append capital (digits (n / 10) count) ((48 + n % 10) ∷ [])
    ∙ ap₂ (λ l b. l ++ b ∷ []) (capital_digits (n / 10) count)
    (ap₂ (λ p q. cond p letter_t (cond q letter_z (48 + n % 10))) (ne_eqb (48 + n % 10) (small letter_t) (λ e. omega arith)) (ne_eqb (48 + n % 10) (small letter_z) (λ e. omega arith)))

digits_capital : (n count : ℕ) (rest : List ℕ) → in_capitals (digits n count ++ rest) ≡ digits n count ++ in_capitals rest
digits_capital n count rest = map-append capital (digits n count) rest ∙ ap (λ l. l ++ in_capitals rest) (capital_digits n count)

pub date_capital : (year month day : ℕ) (rest : List ℕ) → in_capitals (date_text year month day ++ rest) ≡ date_text year month day ++ in_capitals rest
date_capital year month day rest =
    digits_capital year 4 (dash ∷ digits month 2 ++ dash ∷ digits day 2 ++ rest)
    ∙ ap (λ l. digits year 4 ++ dash ∷ l)
    (digits_capital month 2 (dash ∷ digits day 2 ++ rest) ∙ ap (λ l. digits month 2 ++ dash ∷ l) (digits_capital day 2 rest))

-- digits in front of a text that is made capital
digits_then :
    (n count : ℕ) (rest : List ℕ) {whole text : List ℕ} → whole ≡ digits n count ++ rest → in_capitals rest ≡ text → in_capitals whole ≡ digits n count ++ text
digits_then n count rest e c = ap in_capitals e ∙ digits_capital n count rest ∙ ap (λ l. digits n count ++ l) c

-- a time is so with its letters made capital; and its numbers have room in it
pub record TimeBack (decimals : ℕ) (part : List ℕ) : Type 0 where
  pub text_is : in_capitals part ≡ time_text decimals (number_at 1 2 part) (number_at 4 2 part) (number_at 7 2 part) (number_at 10 decimals part)
  pub hour_is : number (digits (number_at 1 2 part) 2) ≡ number_at 1 2 part
  pub minute_is : number (digits (number_at 4 2 part) 2) ≡ number_at 4 2 part
  pub second_is : number (digits (number_at 7 2 part) 2) ≡ number_at 7 2 part
  pub fraction_is : number (digits (number_at 10 decimals part) decimals) ≡ number_at 10 decimals part

number_back : (n count : ℕ) {text : List ℕ} (rest : List ℕ) → text ≡ digits n count ++ rest → number (take count text) ≡ number (digits n count)
number_back n count rest e = ap (λ l. number (take count l)) e ∙ ap number (take_at (digits n count) rest count (length_digits n count))

module _ (decimals : ℕ) where
  pub time_back : (part : List ℕ) → fits (time_shape decimals) part ≡ true → TimeBack decimals part
  time_back part f =
      let end = digits 0 decimals ++ letter_z ∷ [] in
      let t = letter_front part 0 (digits 0 2 ++ colon ∷ digits 0 2 ++ colon ∷ digits 0 2 ++ point ∷ end) letter_t refl f in
      let h = digits_front part 1 (colon ∷ digits 0 2 ++ colon ∷ digits 0 2 ++ point ∷ end) 2 t.1 in
      let a = mark_front part 3 (digits 0 2 ++ colon ∷ digits 0 2 ++ point ∷ end) colon refl refl h.1 in
      let m = digits_front part 4 (colon ∷ digits 0 2 ++ point ∷ end) 2 a.1 in
      let b = mark_front part 6 (digits 0 2 ++ point ∷ end) colon refl refl m.1 in
      let s = digits_front part 7 (point ∷ end) 2 b.1 in
      let p = mark_front part 9 end point refl refl s.1 in
      let k = digits_front part 10 (letter_z ∷ []) decimals p.1 in
      let z = letter_front part (10 + decimals) [] letter_z refl k.1 in
      record {
        text_is = t.0
            ∙ ap (λ l. letter_t ∷ l) (digits_then (number_at 1 2 part) 2 (drop 3 part) h.0
            (ap in_capitals a.0 ∙ ap (λ l. colon ∷ l) (digits_then (number_at 4 2 part) 2 (drop 6 part) m.0
            (ap in_capitals b.0 ∙ ap (λ l. colon ∷ l) (digits_then (number_at 7 2 part) 2 (drop 9 part) s.0
            (ap in_capitals p.0 ∙ ap (λ l. point ∷ l) (digits_then (number_at 10 decimals part) decimals (drop (10 + decimals) part) k.0
            (z.0 ∙ ap (λ l. letter_z ∷ in_capitals l) (fits_nothing (drop (10 + decimals + 1) part) z.1)))))))));
        hour_is = sym (number_back (number_at 1 2 part) 2 (drop 3 part) h.0);
        minute_is = sym (number_back (number_at 4 2 part) 2 (drop 6 part) m.0);
        second_is = sym (number_back (number_at 7 2 part) 2 (drop 9 part) s.0);
        fraction_is = sym (number_back (number_at 10 decimals part) decimals (drop (10 + decimals) part) k.0);
      }

-- ---- written texts have the shape

pub date_fits : (year month day : ℕ) → fits date_shape (date_text year month day) ≡ true
date_fits year month day =
    fits_both (digits 0 4) (dash ∷ digits 0 2 ++ dash ∷ digits 0 2) (digits year 4) (dash ∷ digits month 2 ++ dash ∷ digits day 2) (digits_fit year 4)
    (fits_both (digits 0 2) (dash ∷ digits 0 2) (digits month 2) (dash ∷ digits day 2) (digits_fit month 2) (digits_fit day 2))

pub time_fits : (decimals hour minute second fraction : ℕ) → fits (time_shape decimals) (time_text decimals hour minute second fraction) ≡ true
time_fits decimals hour minute second fraction =
    let shape = digits 0 decimals ++ letter_z ∷ [] in
    let text = digits fraction decimals ++ letter_z ∷ [] in
    fits_both (digits 0 2) (colon ∷ digits 0 2 ++ colon ∷ digits 0 2 ++ point ∷ shape) (digits hour 2) (colon ∷ digits minute 2 ++ colon ∷ digits second 2 ++ point ∷ text) (digits_fit hour 2)
    (fits_both (digits 0 2) (colon ∷ digits 0 2 ++ point ∷ shape) (digits minute 2) (colon ∷ digits second 2 ++ point ∷ text) (digits_fit minute 2)
    (fits_both (digits 0 2) (point ∷ shape) (digits second 2) (point ∷ text) (digits_fit second 2)
    (fits_both (digits 0 decimals) (letter_z ∷ []) (digits fraction decimals) (letter_z ∷ []) (digits_fit fraction decimals) refl)))
