-- The whole answer of each call, over all whole numbers: the refusals of document 01 by their numbers and in its order, then the value.
use Rattle.std.specs.Prelude.{Bool, cond, ℤ, pos, ◌+ℤ◌}
use Rattle.refusal.specs.Outcome.{Outcome, value, refused}
use Rattle.numbers.specs.Range.{outside}
use Rattle.calendar.specs.Range.{first_year, last_year, first_count, last_count}
use Rattle.calendar.specs.Gregorian.{leap_year, month_length, date_of}
use Rattle.calendar.specs.Count.{date_of_count, count_of_date, weekday, day_of_year}
use Rattle.calendar.specs.declared.Date.{Date}

-- 1 for a year outside the range
unfoldable pub leap_answer : (year : ℤ) → Outcome Bool
leap_answer year = cond (outside first_year last_year year) (refused 1) (value (leap_year year))

-- 1 for the year, then 2 for a month outside 1..12
unfoldable pub last_day_answer : (year month : ℤ) → Outcome ℤ
last_day_answer year month =
    cond (outside first_year last_year year) (refused 1)
    (cond (outside (pos 1) (pos 12) month) (refused 2) (value (month_length year month)))

-- 1 for the year, 2 for the month, 3 for a day outside 1..length of that month; else what `answer` says of the date
unfoldable pub of_date : {A : Type 0} → (year month day : ℤ) → (Date → Outcome A) → Outcome A
of_date year month day answer =
    cond (outside first_year last_year year) (refused 1)
    (cond (outside (pos 1) (pos 12) month) (refused 2)
    (cond (outside (pos 1) (month_length year month) day) (refused 3) (answer (date_of year month day))))

unfoldable pub days_answer : (year month day : ℤ) → Outcome ℤ
days_answer year month day = of_date year month day (λ d. value (count_of_date d))

unfoldable pub day_of_year_answer : (year month day : ℤ) → Outcome ℤ
day_of_year_answer year month day = of_date year month day (λ d. value (day_of_year d))

-- 4 for a count outside the range
unfoldable pub civil_answer : (days : ℤ) → Outcome Date
civil_answer days = cond (outside first_count last_count days) (refused 4) (value (date_of_count days))

unfoldable pub weekday_answer : (days : ℤ) → Outcome ℤ
weekday_answer days = cond (outside first_count last_count days) (refused 4) (value (weekday days))

-- the refusals of the date, then 4 for a sum outside the range; the sum is one of whole numbers and does not wrap
unfoldable pub add_days_answer : (year month day days : ℤ) → Outcome Date
add_days_answer year month day days = of_date year month day (λ d. civil_answer (count_of_date d +ℤ days))
