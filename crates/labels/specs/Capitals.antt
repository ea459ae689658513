-- Labels in capitals, and the rule of document 01 that "the reader takes exactly that shape, with capital T and Z": what the theorems
-- on document 02, request Three, compare the reader with. No contract uses them.
use Rattle.std.specs.Prelude.{ℕ, Bool, true, false, cond, ◌&&◌, ◌||◌, List, [], ◌∷◌, ◌++◌, map, drop, ℤ, ◌==◌}
use Rattle.refusal.specs.Outcome.{Outcome, refused}
use Rattle.text.specs.Decimal.{digits, is_digit}
use Rattle.labels.specs.Digits.{letter_t, letter_z, small}
use Rattle.labels.specs.Clock.{colon, clock_text}
use Rattle.labels.specs.Rfc3339.{decimals, date_shape, time_shape, read_fields}

-- a small t or z made capital, and a text with all of these made capital
abbrev pub capital : (byte : ℕ) → ℕ
capital byte = cond (byte == small letter_t) letter_t (cond (byte == small letter_z) letter_z byte)

abbrev pub in_capitals : (text : List ℕ) → List ℕ
in_capitals text = map capital text

-- a digit where the shape has the digit 0, and the same byte where it has another
abbrev pub fits_exactly : (shape text : List ℕ) → Bool
fits_exactly [] [] = true
fits_exactly [] (b ∷ bs) = false
fits_exactly (s ∷ ss) [] = false
fits_exactly (s ∷ ss) (b ∷ bs) = cond (s == 48) (is_digit b) (b == s) && fits_exactly ss bs

-- what document 01's reader answers: 8 for a label of another shape
unfoldable pub capitals_answer : (label : List ℕ) → Outcome ℤ
capitals_answer label = cond (fits_exactly (date_shape ++ time_shape decimals) label) (read_fields label (drop 10 label)) (refused 8)

-- the shape of a label with other letters
abbrev pub shape_with : (t z : ℕ) → List ℕ
shape_with t z = date_shape ++ t ∷ digits 0 2 ++ colon ∷ clock_text decimals 0 0 0 ++ z ∷ []

-- the forms with small letters: one of them small, or both
abbrev pub is_small_form : (label : List ℕ) → Bool
is_small_form label =
    fits_exactly (shape_with (small letter_t) letter_z) label
    || (fits_exactly (shape_with letter_t (small letter_z)) label || fits_exactly (shape_with (small letter_t) (small letter_z)) label)
