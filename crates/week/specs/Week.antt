-- ISO 8601 week dates over the calendar: document 02, request Seven. Weeks run from Monday to Sunday; "week 1 holds the year's first
-- Thursday".
use Rattle.std.specs.Prelude.{ℕ, zero, suc, ◌+◌, Bool, cond, ◌&&◌, ℤ, pos, nat_abs, ◌+ℤ◌, ◌-ℤ◌}
use Rattle.numbers.specs.Range.{eq_z}
use Rattle.calendar.specs.Count.{weekday, day_of_year}
use Rattle.week.specs.Days.{date_on}
use Rattle.week.specs.declared.WeekDate.{WeekDate}

-- the number of Thursday
abbrev pub thursday : ℤ
thursday = pos 4

-- the Thursday of the week of day z: as many days after z as its weekday lies before Thursday
abbrev pub thursday_of : ℤ → ℤ
thursday_of z = z +ℤ (thursday -ℤ weekday z)

-- how many Thursdays there are among day z and the days before it, n days in all
unfoldable pub thursdays : (n : ℕ) (z : ℤ) → ℕ
thursdays zero z = 0
thursdays (suc n) z = cond (eq_z (weekday z) thursday) 1 0 + thursdays n (z -ℤ pos 1)

-- how many Thursdays of its year there are up to day z
abbrev pub thursdays_of_year : ℤ → ℕ
thursdays_of_year z = thursdays (nat_abs (day_of_year (date_on z))) z

abbrev pub week_date : (year week weekday : ℤ) → WeekDate
week_date year week weekday = record { year = year; week = week; weekday = weekday }

-- the week date of day z: the calendar year of its week's Thursday, how many Thursdays of that year there are up to it, and the weekday
unfoldable pub week_date_of : ℤ → WeekDate
week_date_of z = week_date (date_on (thursday_of z)).year (pos (thursdays_of_year (thursday_of z))) (weekday z)

abbrev pub same_week_date : WeekDate → WeekDate → Bool
same_week_date d e = eq_z d.year e.year && (eq_z d.week e.week && eq_z d.weekday e.weekday)
