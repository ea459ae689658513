-- Every day of the calendar, also those before its range: document 02, request Seven, has weeks whose Thursdays lie there. The leap
-- rule and the month lengths hold there as they stand, and the day before is found by one step back.
use Rattle.std.specs.Prelude.{ℕ, zero, suc, cond, ℤ, pos, ◌-ℤ◌}
use Rattle.std.specs.Int.Signed.{lt_z}
use Rattle.numbers.specs.Range.{since}
use Rattle.calendar.specs.Range.{first_count}
use Rattle.calendar.specs.Gregorian.{month_length, date_of, first_date}
use Rattle.calendar.specs.Count.{date_of_count}
use Rattle.calendar.specs.declared.Date.{Date}

-- the last day of a month
abbrev pub last_of : (year month : ℤ) → Date
last_of year month = date_of year month (month_length year month)

-- the day before; the day after it is the day (`next_of_previous`)
unfoldable pub previous_day : Date → Date
previous_day d =
    cond (lt_z (pos 1) d.day)
    (date_of d.year d.month (d.day -ℤ pos 1))
    (cond (lt_z (pos 1) d.month)
    (last_of d.year (d.month -ℤ pos 1))
    (last_of (d.year -ℤ pos 1) (pos 12)))

-- the date n days before the first
unfoldable pub date_before : ℕ → Date
date_before zero = first_date
date_before (suc n) = previous_day (date_before n)

-- the date of any count; the next count is the next day (`next_date`)
unfoldable pub date_on : ℤ → Date
date_on z = cond (lt_z z first_count) (date_before (since z first_count)) (date_of_count z)
