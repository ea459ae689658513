-- Instant labels, `YYYY-MM-DDTHH:MM:SS.mmmZ`: document 01, "Instant label", read with small letters too, and for the years 0 to 9999 of a
-- longer calendar: document 02, requests Three and Eight. The form is that of RFC 3339, section 5.6.
use Rattle.std.specs.Prelude.{ℕ, ◌+◌, cond, List, [], ◌∷◌, ◌++◌, drop, ℤ, pos, unsigned_abs}
use Rattle.refusal.specs.Outcome.{Outcome, value, refused, and_then}
use Rattle.numbers.specs.Range.{outside}
use Rattle.instant.specs.Answers.{split_answer, join_answer}
use Rattle.instant.specs.declared.Fields.{Fields}
use Rattle.text.specs.Decimal.{digits}
use Rattle.labels.specs.Digits.{number_at, letter_t, letter_z, fits}
use Rattle.labels.specs.Clock.{colon, clock_text}
use Rattle.labels.specs.Years.{first_label_year, last_label_year}

-- `-`, the mark beside those of the clock and the letters
abbrev pub dash : ℕ
dash = 45

-- how many decimals the seconds have, and how many bytes a label has
abbrev pub decimals : ℕ
decimals = 3

abbrev pub label_length : ℕ
label_length = 21 + decimals

-- `YYYY-MM-DD`
abbrev pub date_text : (year month day : ℕ) → List ℕ
date_text year month day = digits year 4 ++ dash ∷ digits month 2 ++ dash ∷ digits day 2

-- `THH:MM:SS.` with `count` decimals, and `Z`
abbrev pub time_text : (count hour minute second fraction : ℕ) → List ℕ
time_text count hour minute second fraction = letter_t ∷ digits hour 2 ++ colon ∷ clock_text count minute second fraction ++ letter_z ∷ []

-- the label of fields that are natural numbers
unfoldable pub numbers_text : (year month day hour minute second fraction : ℕ) → List ℕ
numbers_text year month day hour minute second fraction = date_text year month day ++ time_text decimals hour minute second fraction

-- the text of fields that have room in a label; of others it would have the last digits, and no sign
abbrev pub label_text : Fields → List ℕ
label_text f =
    numbers_text (unsigned_abs f.year) (unsigned_abs f.month) (unsigned_abs f.day) (unsigned_abs f.hour) (unsigned_abs f.minute) (unsigned_abs f.second)
    (unsigned_abs f.millisecond)

-- the label of an instant's fields: 1 for a year that has none
abbrev pub fields_label : Fields → Outcome (List ℕ)
fields_label f = cond (outside first_label_year last_label_year f.year) (refused 1) (value (label_text f))

-- the label of an instant: 4 for an instant outside the range, then 1
unfoldable pub instant_label : (instant : ℤ) → Outcome (List ℕ)
instant_label instant = and_then (split_answer instant) fields_label

-- the shape of a label is that of zeros: digits where these have digits, and the same marks, of which T and Z may be small
abbrev pub date_shape : List ℕ
date_shape = date_text 0 0 0

abbrev pub time_shape : (count : ℕ) → List ℕ
time_shape count = time_text count 0 0 0 0

-- the instant of the numbers of a label, whose rest from the T on is `time`
abbrev pub read_fields : (label time : List ℕ) → Outcome ℤ
read_fields label time =
    join_answer (pos (number_at 0 4 label)) (pos (number_at 5 2 label)) (pos (number_at 8 2 label)) (pos (number_at 1 2 time)) (pos (number_at 4 2 time))
    (pos (number_at 7 2 time)) (pos (number_at 10 decimals time))

-- 8 for a "label not 24 bytes, a non-digit where a digit stands, or a wrong mark"; else what its fields make, where "the time is read from
-- the rest of the label, which begins at byte 10". Four digits are never a year outside the range, so what they make is never 1
-- (`read_year`), and the order is 8, then 2, 3, 5
unfoldable pub read_answer : (label : List ℕ) → Outcome ℤ
read_answer label = cond (fits (date_shape ++ time_shape decimals) label) (read_fields label (drop 10 label)) (refused 8)
