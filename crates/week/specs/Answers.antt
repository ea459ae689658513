-- The whole answer of each call, over all whole numbers: the refusals of document 02, request Seven, by their numbers and in its order,
-- then the value.
use Rattle.std.specs.Prelude.{ℕ, zero, suc, ◌+◌, cond, ℤ, pos, ◌+ℤ◌, ◌-ℤ◌}
use Rattle.refusal.specs.Outcome.{Outcome, value, refused}
use Rattle.numbers.specs.Range.{outside, since}
use Rattle.calendar.specs.Range.{first_year, last_year, first_count, last_count}
use Rattle.week.specs.Week.{week_date, week_date_of, same_week_date}
use Rattle.week.specs.declared.WeekDate.{WeekDate}

-- 4 for a count outside the range
unfoldable pub week_answer : (days : ℤ) → Outcome WeekDate
week_answer days = cond (outside first_count last_count days) (refused 4) (value (week_date_of days))

-- the week years: that of the first days of the range is the year before it
abbrev pub first_week_year : ℤ
first_week_year = first_year -ℤ pos 1

abbrev pub last_week_year : ℤ
last_week_year = last_year

-- 4 for a day outside the range
abbrev pub in_range : ℤ → Outcome ℤ
in_range z = cond (outside first_count last_count z) (refused 4) (value z)

-- the first of n days from z on that has the week date w, or 4 where it lies outside the range; 16 where none has it
unfoldable pub day_with : (w : WeekDate) (n : ℕ) (z : ℤ) → Outcome ℤ
day_with w zero z = refused 16
day_with w (suc n) z = cond (same_week_date (week_date_of z) w) (in_range z) (day_with w n (z +ℤ pos 1))

-- the days that are looked at: those of the range, and 53 weeks before and after it, outside of which no day has one of the week years
-- (`sixteen_exactly`)
abbrev pub around_range : ℕ
around_range = 371

abbrev pub look_from : ℤ
look_from = first_count -ℤ pos around_range

abbrev pub look_through : ℕ
look_through = since look_from last_count + 1 + around_range

-- 1 for a week year outside the range, 16 where no day has the week date, 4 for a day outside the range
unfoldable pub week_days_answer : (year week weekday : ℤ) → Outcome ℤ
week_days_answer year week weekday =
    cond (outside first_week_year last_week_year year) (refused 1) (day_with (week_date year week weekday) look_through look_from)
