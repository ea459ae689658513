-- What private functions answer, for proofs and private contracts only: the tests of a year, a month, a count and a date, and the length
-- of a month.
use Rattle.std.specs.Prelude.{ℕ, ◌≡◌, cond, ℤ, pos, nat_abs, Result}
use Rattle.refusal.specs.Outcome.{Outcome, value, refused, outcome, map_value}
use Rattle.refusal.specs.declared.Refusal.{Refusal}
use Rattle.numbers.specs.Range.{outside, since}
use Rattle.calendar.specs.Range.{first_year, last_year, first_count, last_count}
use Rattle.calendar.specs.Answers.{of_date}
use Rattle.calendar.specs.Closed.{base_year, month_days, public}
use Rattle.calendar.specs.declared.Date.{Date}
use Rattle.calendar.specs.declared.month.Month.{Month}
use Rattle.calendar.specs.declared.range_day.RangeDay.{RangeDay}
use Rattle.calendar.specs.declared.checked_date.CheckedDate.{CheckedDate}

-- the date that was tested
unfoldable pub public_date : CheckedDate → Date
public_date d = public d.year d.month.number d.day

-- what a test hands back: the number of a month, the number of a day, a date
abbrev pub month_outcome : Result Month Refusal → Outcome ℕ
month_outcome result = map_value (λ (m : Month). m.number) (outcome result)

abbrev pub range_day_outcome : Result RangeDay Refusal → Outcome ℕ
range_day_outcome result = map_value (λ (d : RangeDay). d.number) (outcome result)

abbrev pub checked_outcome : Result CheckedDate Refusal → Outcome Date
checked_outcome result = map_value public_date (outcome result)

-- what the test of a date tells
abbrev pub ChecksDate : Date → Result CheckedDate Refusal → Type 0
ChecksDate date result = checked_outcome result ≡ of_date date.year date.month date.day value

-- 1 for a year outside the range, else the year counted from base_year
unfoldable pub year_answer : (year : ℤ) → Outcome ℕ
year_answer year = cond (outside first_year last_year year) (refused 1) (value (since base_year year))

-- 2 for a month outside 1..12, else its number
unfoldable pub month_answer : (month : ℤ) → Outcome ℕ
month_answer month = cond (outside (pos 1) (pos 12) month) (refused 2) (value (nat_abs month))

-- 4 for a count outside the range, else the day counted from the first
unfoldable pub range_day_answer : (days : ℤ) → Outcome ℕ
range_day_answer days = cond (outside first_count last_count days) (refused 4) (value (since first_count days))

-- 2 for a month outside 1..12, else its length in a year with l leap days
unfoldable pub length_answer : (l : ℕ) (month : ℤ) → Outcome ℤ
length_answer l month = cond (outside (pos 1) (pos 12) month) (refused 2) (value (pos (month_days l (nat_abs month))))
