-- Texts of one shape, with digits at fixed places, whose letters may be small. 48 is the byte of the digit 0.
use Rattle.std.specs.Prelude.{ℕ, ◌+◌, Bool, true, false, cond, ◌&&◌, ◌||◌, List, [], ◌∷◌, take, drop, ◌==◌}
use Rattle.text.specs.Decimal.{number, is_digit}

-- the number of `count` digits of a text from byte `at` on
abbrev pub number_at : (at count : ℕ) → List ℕ → ℕ
number_at at count text = number (take count (drop at text))

-- the letters T and Z
abbrev pub letter_t : ℕ
letter_t = 84

abbrev pub letter_z : ℕ
letter_z = 90

-- the marks that may be one of two bytes: document 02, request Three, "T and Z may be written small"
abbrev pub has_small : (mark : ℕ) → Bool
has_small mark = mark == letter_t || mark == letter_z

-- the small letter of a capital
abbrev pub small : (capital : ℕ) → ℕ
small capital = capital + 32

-- a mark as it is, or small where it may be
abbrev pub is_mark : (mark byte : ℕ) → Bool
is_mark mark byte = (has_small mark && byte == small mark) || byte == mark

-- a digit where the shape has the digit 0, and the mark where it has another byte
abbrev pub fits_one : (shape byte : ℕ) → Bool
fits_one shape byte = cond (shape == 48) (is_digit byte) (is_mark shape byte)

-- a text as long as the shape, each byte of which fits
abbrev pub fits : (shape text : List ℕ) → Bool
fits [] [] = true
fits [] (b ∷ bs) = false
fits (s ∷ ss) [] = false
fits (s ∷ ss) (b ∷ bs) = fits_one s b && fits ss bs
