-- Closed forms on natural numbers, for proofs and private contracts only: nobody has to believe them. Days and years are counted from
-- the base, a Monday that is 1 January of the year after the calendar's own base, which is a leap year.
use Rattle.std.specs.Prelude.{ℕ, ◌+◌, ◌-◌, ◌*◌, ◌/◌, ◌≤◌, ◌<◌, cond, ltb, ℤ, pos, ◌+ℤ◌}
use Rattle.numbers.specs.Range.{since}
use Rattle.calendar.specs.Range.{first_count, last_count}
use Rattle.calendar.specs.Closed as calendar
use Rattle.week.specs.Answers.{first_week_year, last_week_year}

-- the days of the leap year before the base
abbrev pub leap_year_days : ℕ
leap_year_days = 366

abbrev pub base_year : ℤ
base_year = calendar.base_year +ℤ pos 1

abbrev pub base_count : ℤ
base_count = calendar.base_count +ℤ pos leap_year_days

-- the first and the last week year, and the first and the last day of the range
abbrev pub from_year : ℕ
from_year = since base_year first_week_year

abbrev pub to_year : ℕ
to_year = since base_year last_week_year

abbrev pub from_day : ℕ
from_day = since base_count first_count

abbrev pub to_day : ℕ
to_day = since base_count last_count

-- the first day of a year
unfoldable pub first_day : (year : ℕ) → ℕ
first_day year = calendar.start (year + 1) - leap_year_days

-- day n lies in a year
pub record InYear (n year : ℕ) : Type 0 where
  pub low : first_day year ≤ n
  pub high : n < first_day (year + 1)

-- how many weeks lie before a year's first, that of 4 January, and the Monday of that
unfoldable pub first_week : (year : ℕ) → ℕ
first_week year = (first_day year + 3) / 7

abbrev pub first_monday : (year : ℕ) → ℕ
first_monday year = 7 * first_week year

-- how many weeks a year has: the Thursday of week 53 is 367 days after the first Monday
unfoldable pub weeks : (year : ℕ) → ℕ
weeks year = cond (ltb (first_monday year + 367) (first_day (year + 1))) 53 52

-- the day of a week date, whose week and weekday are counted from 1
unfoldable pub day_of : (year week weekday : ℕ) → ℕ
day_of year week weekday = first_monday year + 7 * (week - 1) + (weekday - 1)
