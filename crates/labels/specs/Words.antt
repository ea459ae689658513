-- Texts of at most eight bytes as one number, for proofs and private contracts only: nobody has to believe them.
use Rattle.std.specs.Prelude.{◌≡◌, ℕ, zero, suc, ◌+◌, ◌-◌, ◌*◌, ◌/◌, ◌^◌, ◌<◌, ◌≤◌, Bool, true, cond, not, ◌&&◌, List, [], ◌∷◌, map, length, ◌==◌, nat_le}
use Rattle.refusal.specs.Outcome.{Outcome, value, refused}
use Rattle.text.specs.Words.{word, byte_of, bytes_of}
use Rattle.labels.specs.Digits.{has_small, fits}

-- a shape without T and Z, of bytes that a digit's value more leaves below 128
abbrev pub simple : (shape : List ℕ) → Bool
simple [] = true
simple (s ∷ ss) = nat_le s 118 && (not (has_small s) && simple ss)

-- what the value of each byte can be raised by and stay below 128: 127 less 9 at a digit, and less 0 at a mark
abbrev pub room_one : (shape : ℕ) → ℕ
room_one shape = cond (shape == 48) 118 127

abbrev pub rooms : (shape : List ℕ) → List ℕ
rooms shape = map room_one shape

-- such a shape of at most eight bytes, and a number of as many
abbrev pub OneWord : (shape : List ℕ) (n : ℕ) → Type 0
OneWord shape n = (length shape ≤ 8) × ((simple shape ≡ true) × (n < 256 ^ length shape))

-- how far each byte of a text lies above that of its shape: the values of digits, and 0 at marks
abbrev pub above : (shape text : List ℕ) → List ℕ
above [] text = []
above (s ∷ ss) [] = []
above (s ∷ ss) (b ∷ bs) = (b - s) ∷ above ss bs

-- the bytes of a number as a text against a shape
abbrev pub text_of : (shape : List ℕ) (n : ℕ) → List ℕ
text_of shape n = bytes_of (length shape) n

-- the values of two texts of some shapes; 8 for other texts
abbrev pub read_values : (shape : List ℕ) (m : ℕ) (other : List ℕ) (n : ℕ) → Outcome (ℕ × ℕ)
read_values shape m other n =
    cond (fits shape (text_of shape m) && fits other (text_of other n)) (value (word (above shape (text_of shape m)), word (above other (text_of other n))))
    (refused 8)

-- the numbers of two digits of some values, each in the byte of its tens; and that from byte k on
abbrev pub pairs : (values : ℕ) → ℕ
pairs values = values * 10 + values / 256

abbrev pub pair_of : (values k : ℕ) → ℕ
pair_of values k = byte_of (pairs values) k

-- the number that the first of some values make as digits
abbrev pub number_of : (values count : ℕ) → ℕ
number_of values zero = 0
number_of values (suc count) = number_of values count * 10 + byte_of values count

-- the values of `HH:MM:SS`
pub record ClockValues (values : ℕ) : Type 0 where
  pub hour_tens : ℕ
  pub hour_ones : ℕ
  pub minute_tens : ℕ
  pub minute_ones : ℕ
  pub second_tens : ℕ
  pub second_ones : ℕ
  pub hours_le : (hour_tens ≤ 9) × (hour_ones ≤ 9)
  pub minutes_le : (minute_tens ≤ 9) × (minute_ones ≤ 9)
  pub seconds_le : (second_tens ≤ 9) × (second_ones ≤ 9)
  pub values_are : values ≡ word (hour_tens ∷ hour_ones ∷ 0 ∷ minute_tens ∷ minute_ones ∷ 0 ∷ second_tens ∷ second_ones ∷ [])

-- the values of three digits behind a mark
pub record Thousandths (values : ℕ) : Type 0 where
  pub tenth : ℕ
  pub hundredth : ℕ
  pub thousandth : ℕ
  pub tenth_le : tenth ≤ 9
  pub hundredth_le : hundredth ≤ 9
  pub thousandth_le : thousandth ≤ 9
  pub values_are : values ≡ word (0 ∷ tenth ∷ hundredth ∷ thousandth ∷ [])
