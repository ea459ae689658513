-- The proleptic Gregorian calendar by steps: document 01, "Calendar rules". The leap rule is that of source document 000, section 6.
use Rattle.std.specs.Prelude.{ℕ, zero, suc, ◌-◌, ◌≡◌, Bool, true, false, cond, not, ◌&&◌, List, [], ◌∷◌, eqb, ℤ, pos, nat_abs, ◌+ℤ◌, get_or}
use Rattle.std.specs.Int.Signed.{lt_z}
use Rattle.numbers.specs.Floor.{floor_remainder}
use Rattle.numbers.specs.Range.{outside}
use Rattle.calendar.specs.Range.{first_year, last_year}
use Rattle.calendar.specs.declared.Date.{Date}

abbrev pub divides : ℕ → ℤ → Bool
divides d y = eqb (floor_remainder y d) 0

-- a year is leap if 4 divides it, except where 100 divides it and 400 doesn't
unfoldable pub leap_year : ℤ → Bool
leap_year y = divides 4 y && not (divides 100 y && not (divides 400 y))

-- the month lengths from January, of a leap year or a common one
unfoldable pub month_lengths : (leap : Bool) → List ℕ
month_lengths leap = 31 ∷ cond leap 29 28 ∷ 31 ∷ 30 ∷ 31 ∷ 30 ∷ 31 ∷ 31 ∷ 30 ∷ 31 ∷ 30 ∷ 31 ∷ []

-- the days before each month in a common year: document 01's table, which the code has; its rule is `table_rule`
unfoldable pub days_before : List ℕ
days_before = 0 ∷ 31 ∷ 59 ∷ 90 ∷ 120 ∷ 151 ∷ 181 ∷ 212 ∷ 243 ∷ 273 ∷ 304 ∷ 334 ∷ []

-- the length of month m, 1 to 12, of the year y
unfoldable pub month_length : (y m : ℤ) → ℤ
month_length y m = pos (get_or (month_lengths (leap_year y)) (nat_abs m - 1) 0)

abbrev pub date_of : (year month day : ℤ) → Date
date_of year month day = record { year = year; month = month; day = day }

-- the day after
unfoldable pub next_day : Date → Date
next_day d =
    cond (lt_z d.day (month_length d.year d.month))
    (date_of d.year d.month (d.day +ℤ pos 1))
    (cond (lt_z d.month (pos 12))
    (date_of d.year (d.month +ℤ pos 1) (pos 1))
    (date_of (d.year +ℤ pos 1) (pos 1) (pos 1)))

abbrev pub first_date : Date
first_date = date_of first_year (pos 1) (pos 1)

-- the date n days after the first
unfoldable pub date_after : ℕ → Date
date_after zero = first_date
date_after (suc n) = next_day (date_after n)

-- a valid date of the years of the range
pub record ValidDate (d : Date) : Type 0 where
  pub year_inside : outside first_year last_year d.year ≡ false
  pub month_inside : outside (pos 1) (pos 12) d.month ≡ false
  pub day_inside : outside (pos 1) (month_length d.year d.month) d.day ≡ false

-- d is an earlier date than e
pub data Earlier (d e : Date) : Type 0 where
  by_year : lt_z d.year e.year ≡ true → Earlier d e
  by_month : d.year ≡ e.year → lt_z d.month e.month ≡ true → Earlier d e
  by_day : d.year ≡ e.year → d.month ≡ e.month → lt_z d.day e.day ≡ true → Earlier d e
