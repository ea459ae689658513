-- Closed forms on natural numbers, for proofs and private contracts only: nobody has to believe them. They are shown equal to the
-- calendar by steps in proofs/Steps.antt. Years are counted from `base_year`, one cycle before the first, so that the computational
-- calendar of source document 000, section 6, whose years begin in March, needs no number below zero.
use Rattle.std.specs.Prelude.{ℕ, zero, suc, ◌+◌, ◌-◌, ◌*◌, ◌/◌, ◌%◌, ◌≤◌, Bool, cond, not, ◌&&◌, List, [], ◌∷◌, eqb, leb, ℤ, pos, ◌+ℤ◌, ◌-ℤ◌, get_or}
use mir.Val.{bool_byte}
use Rattle.numbers.specs.Range.{since}
use Rattle.calendar.specs.Range.{first_year, last_year, first_count, last_count}
use Rattle.calendar.specs.Gregorian.{date_of}
use Rattle.calendar.specs.declared.Date.{Date}

-- the years and the days after which the calendar repeats itself
abbrev pub cycle_years : ℕ
cycle_years = 400

abbrev pub cycle : ℕ
cycle = 146097

abbrev pub base_year : ℤ
base_year = first_year -ℤ pos cycle_years

-- the count of 1 January of base_year
abbrev pub base_count : ℤ
base_count = first_count -ℤ pos cycle

-- the first and the last year of the range, counted from base_year
abbrev pub from_year : ℕ
from_year = since base_year first_year

abbrev pub to_year : ℕ
to_year = since base_year last_year

-- the last day of the range, counted from its first
abbrev pub last_day : ℕ
last_day = since first_count last_count

-- the first day of the range, counted from 1 March of base_year: January and February of a leap year have 60 days
abbrev pub first_from_march : ℕ
first_from_march = cycle - 60

-- whether the year base_year + y is leap
unfoldable pub leapℕ : ℕ → Bool
leapℕ y = eqb (y % 4) 0 && not (eqb (y % 100) 0 && not (eqb (y % 400) 0))

-- its leap days: 0 or 1
unfoldable pub leap_day : ℕ → ℕ
leap_day y = cond (leapℕ y) 1 0

-- the leap years before y
unfoldable pub leaps : ℕ → ℕ
leaps y = (y + 3) / 4 + (y + 399) / 400 - (y + 99) / 100

-- the day on which year y begins, counted from 1 January of base_year
unfoldable pub start : ℕ → ℕ
start y = 365 * y + leaps y

-- the length of month m in a year with l leap days
unfoldable pub month_days : (l m : ℕ) → ℕ
month_days l m = get_or (0 ∷ 31 ∷ (28 + l) ∷ 31 ∷ 30 ∷ 31 ∷ 30 ∷ 31 ∷ 31 ∷ 30 ∷ 31 ∷ 30 ∷ 31 ∷ []) m 0

-- the lengths in a common year, at the places of the months
abbrev pub common_lengths : List ℕ
common_lengths = 0 ∷ 31 ∷ 28 ∷ 31 ∷ 30 ∷ 31 ∷ 30 ∷ 31 ∷ 31 ∷ 30 ∷ 31 ∷ 30 ∷ 31 ∷ []

-- the days before month m of a year with l leap days
unfoldable pub before : (l m : ℕ) → ℕ
before l zero = 0
before l (suc m) = before l m + month_days l m

-- year, month and day are a date
pub record Valid (y m d : ℕ) : Type 0 where
  pub month_low : 1 ≤ m
  pub month_high : m ≤ 12
  pub day_low : 1 ≤ d
  pub day_high : d ≤ month_days (leap_day y) m

-- and the year is one of the range
pub record InRange (y m d : ℕ) : Type 0 where
  pub is_valid : Valid y m d
  pub from : from_year ≤ y
  pub to : y ≤ to_year

-- the day of a date, counted from 1 January of base_year
unfoldable pub day_number : (y m d : ℕ) → ℕ
day_number y m d = start y + before (leap_day y) m + (d - 1)

-- the date with the year base_year + y
abbrev pub public : (y m d : ℕ) → Date
public y m d = date_of (base_year +ℤ pos y) (pos m) (pos d)

-- the days from 1 March to the first of month m, where 13 and 14 are January and February: equation (10) of source document 000
abbrev pub from_march : ℕ → ℕ
from_march m = (153 * m - 457) / 5

-- 1 in January and February, else 0
abbrev pub before_march : ℕ → ℕ
before_march m = bool_byte (leb m 2)

-- day n in the calendar in which every fourth year is leap, where both count from the first day of a year after a multiple of 400, or
-- from 1 March of such a multiple: the days that three in four centuries lack are put in
abbrev pub regular_day : ℕ → ℕ
regular_day n = n + (4 * n + 3) / cycle - (4 * n + 3) / cycle / 4

-- the end of the days for which code has products in place of divisions
abbrev pub days_end : ℕ
days_end = 24000000
