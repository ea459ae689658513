-- Day counts by steps: document 01, "The definition of the day count is by steps". The first date has the first count, and the
-- next day has the next count, so that 0000-01-01 has count -719528 (`year_zero_has_its_count`) and day 0 is 1970-01-01
-- (`day_zero_is_1970`; source document 002, the epoch shift).
use Rattle.std.specs.Prelude.{ℕ, zero, suc, ◌+◌, ◌-◌, Bool, cond, ◌&&◌, List, [], ◌∷◌, ℤ, pos, nat_abs, ◌+ℤ◌, take}
use Rattle.numbers.specs.Floor.{floor_remainder}
use Rattle.numbers.specs.Range.{since, eq_z}
use Rattle.calendar.specs.Range.{first_count, last_count}
use Rattle.calendar.specs.Gregorian.{leap_year, month_lengths, next_day, first_date, date_after}
use Rattle.calendar.specs.declared.Date.{Date}

-- the date of the count z, which is not below the first
unfoldable pub date_of_count : ℤ → Date
date_of_count z = date_after (since first_count z)

abbrev pub same_date : Date → Date → Bool
same_date d e = eq_z d.year e.year && (eq_z d.month e.month && eq_z d.day e.day)

-- how often the next day is taken from e on until d is met, at most `most` times
unfoldable pub days_until : (most : ℕ) (e d : Date) → ℕ
days_until zero e d = zero
days_until (suc most) e d = cond (same_date e d) zero (suc (days_until most (next_day e) d))

-- the count of the date d, which lies in the range
unfoldable pub count_of_date : Date → ℤ
count_of_date d = first_count +ℤ pos (days_until (since first_count last_count) first_date d)

-- the weekday of a count: 1 Monday to 7 Sunday (change request Four), and day 0 is Thursday, three days after a Monday
unfoldable pub weekday : ℤ → ℤ
weekday z = pos (floor_remainder (z +ℤ pos 3) 7 + 1)

-- document 01's number of it, 0 Sunday to 6 Saturday, which theorems alone name
abbrev pub document_number : ℤ → ℕ
document_number z = floor_remainder (z +ℤ pos 4) 7

abbrev pub sum : List ℕ → ℕ
sum [] = 0
sum (n ∷ ns) = n + sum ns

-- the day of the year, from 1: the lengths of the months before, and the day
unfoldable pub day_of_year : Date → ℤ
day_of_year d = pos (sum (take (nat_abs d.month - 1) (month_lengths (leap_year d.year)))) +ℤ d.day
