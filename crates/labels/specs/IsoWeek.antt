-- Week labels, `YYYY-Www-D`: document 02, request Seven, "10 bytes, week years 0 to 9999 only".
use Rattle.std.specs.Prelude.{ℕ, cond, List, ◌∷◌, ◌++◌, ℤ, pos, unsigned_abs}
use Rattle.refusal.specs.Outcome.{Outcome, value, refused, and_then}
use Rattle.numbers.specs.Range.{outside}
use Rattle.week.specs.Answers.{week_answer, week_days_answer}
use Rattle.week.specs.declared.WeekDate.{WeekDate}
use Rattle.text.specs.Decimal.{digits}
use Rattle.labels.specs.Digits.{number_at, fits}
use Rattle.labels.specs.Rfc3339.{dash}
use Rattle.labels.specs.Years.{first_label_year, last_label_year}

-- the letter W, which is a capital
abbrev pub letter_w : ℕ
letter_w = 87

-- how many bytes a label has
abbrev pub week_length : ℕ
week_length = 10

-- the label of numbers that have room in it
unfoldable pub week_text : (year week weekday : ℕ) → List ℕ
week_text year week weekday = digits year 4 ++ dash ∷ letter_w ∷ digits week 2 ++ dash ∷ digits weekday 1

-- the label of a week date: 1 for a year that has none
abbrev pub week_date_label : WeekDate → Outcome (List ℕ)
week_date_label d =
    cond (outside first_label_year last_label_year d.year) (refused 1) (value (week_text (unsigned_abs d.year) (unsigned_abs d.week) (unsigned_abs d.weekday)))

-- the label of a day count: 4 for a count outside the range, then 1
unfoldable pub week_label : (days : ℤ) → Outcome (List ℕ)
week_label days = and_then (week_answer days) week_date_label

-- the shape of a label is that of zeros: digits where these have digits, and the same marks
abbrev pub week_shape : List ℕ
week_shape = week_text 0 0 0

-- the day of the numbers of a label
abbrev pub read_numbers : (label : List ℕ) → Outcome ℤ
read_numbers label = week_days_answer (pos (number_at 0 4 label)) (pos (number_at 6 2 label)) (pos (number_at 9 1 label))

-- 8 for "any length but 10", a non-digit or a wrong mark; else what its numbers are: 1, 16, 4 or the day count. Four digits are never a
-- week year outside the range, and all days of theirs lie in it, so that is never 1 or 4 (`read_week_year`, `read_week_range`)
unfoldable pub read_week_answer : (label : List ℕ) → Outcome ℤ
read_week_answer label = cond (fits week_shape label) (read_numbers label) (refused 8)
