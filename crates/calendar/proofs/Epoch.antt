-- Counts that the papers name, so that nobody has to believe the first one: 0000-01-01 has document 01's count, though the steps begin
-- at an earlier day, and day 0 is 1970-01-01 (source document 002). Then which counts the days of some years have.
use Prim.Native.Nat.{ℕ, ◌+◌}
use mathlib.Core.Path.{◌≡◌, refl, sym, ap, ap₂, ◌∙◌}
use mathlib.Core.Bool.{true, false, cond}
use lib.Dec.{T, leb, lit≤}
use lib.IntN.{ℤ, pos, negsuc, ◌+ℤ◌}
use lib.Signed.{lt_z}
use Rattle.refusal.specs.Outcome.{value, refused}
use Rattle.numbers.specs.Range.{outside, since}
use Rattle.numbers.proofs.Integers.{outside_no, outside_as}
use Rattle.numbers.proofs.Bools.{no_both, same_yes}
use Rattle.calendar.specs.declared.Date.{Date}
use Rattle.calendar.specs.Range.{first_count, last_count}
use Rattle.calendar.specs.Gregorian.{month_length, date_of, ValidDate, Earlier, by_year, by_month, by_day}
use Rattle.calendar.specs.Count.{date_of_count, count_of_date}
use Rattle.calendar.specs.Answers.{days_answer, civil_answer}
use Rattle.calendar.specs.Closed.{base_year, cycle, leap_day, leapℕ, leaps, start, month_days, before, day_number, public}
use Rattle.calendar.proofs.Tests.{accepted_valid, accepted_is}
use Rattle.calendar.proofs.Laws.{date_at, days_of_civil, count_of_date_of_count, date_of_count_is_valid, earlier_exactly}

-- day z is the date with the year base_year + y
pub civil_at :
    (z : ℤ) (y m d : ℕ) → T (leb 1 m) → T (leb m 12) → T (leb 1 d) → T (leb d (month_days (leap_day y) m)) → day_number y m d ≡ cycle + since first_count z →
    outside first_count last_count z ≡ false → civil_answer z ≡ value (public y m d)
unfolding civil_answer date_of_count
civil_at z y m d month_low month_high day_low day_high e h =
    ap (λ t. cond t (refused 4) (value (date_of_count z))) h
    ∙ ap value
    (date_at (since first_count z) y m d
    (record { month_low = lit≤ month_low; month_high = lit≤ month_high; day_low = lit≤ day_low; day_high = lit≤ day_high })
    e)

pub day_zero_is_1970 : civil_answer (pos 0) ≡ value (date_of (pos 1970) (pos 1) (pos 1))
unfolding day_number start leaps leap_day leapℕ before month_days
day_zero_is_1970 = civil_at (pos 0) (since base_year (pos 1970)) 1 1 tt tt tt tt refl refl

-- document 01's first day, and the day after 9999-12-31
pub new_year_0 : civil_answer (negsuc 719527) ≡ value (date_of (pos 0) (pos 1) (pos 1))
unfolding day_number start leaps leap_day leapℕ before month_days
new_year_0 = civil_at (negsuc 719527) (since base_year (pos 0)) 1 1 tt tt tt tt refl refl

pub new_year_10000 : civil_answer (pos 2932897) ≡ value (date_of (pos 10000) (pos 1) (pos 1))
unfolding day_number start leaps leap_day leapℕ before month_days
new_year_10000 = civil_at (pos 2932897) (since base_year (pos 10000)) 1 1 tt tt tt tt refl refl

pub year_zero_has_its_count : days_answer (pos 0) (pos 1) (pos 1) ≡ value (negsuc 719527)
year_zero_has_its_count = days_of_civil (negsuc 719527) (date_of (pos 0) (pos 1) (pos 1)) new_year_0

pub year_10000_has_its_count : days_answer (pos 10000) (pos 1) (pos 1) ≡ value (pos 2932897)
year_10000_has_its_count = days_of_civil (pos 2932897) (date_of (pos 10000) (pos 1) (pos 1)) new_year_10000

-- ---- the counts of years

-- the first day of a year
abbrev new_year_of : ℤ → Date
new_year_of year = date_of year (pos 1) (pos 1)

-- no day of the year is before its first
first_of_year : (year : ℤ) (d : Date) → ValidDate d → Earlier d (new_year_of year) → lt_z d.year year ≡ true
first_of_year year d v (by_year h) = h
first_of_year year d v (by_month p h) = no_both _ h (outside_no (pos 1) (pos 12) d.month v.month_inside).0
first_of_year year d v (by_day p q h) = no_both _ h (outside_no (pos 1) (month_length d.year d.month) d.day v.day_inside).0

-- a day lies in an earlier year exactly if its count is smaller than that of the year's first day
pub in_earlier_year :
    (z : ℤ) → outside first_count last_count z ≡ false → (year first : ℤ) → days_answer year (pos 1) (pos 1) ≡ value first →
    lt_z (date_of_count z).year year ≡ lt_z z first
unfolding days_answer
in_earlier_year z h year first e =
    let v = date_of_count_is_valid z h in
    let o = earlier_exactly (date_of_count z) (new_year_of year) v (accepted_valid year (pos 1) (pos 1) count_of_date first (sym e)) in
    let counts = ap₂ lt_z (count_of_date_of_count z h) (sym (accepted_is year (pos 1) (pos 1) count_of_date first (sym e))) in
    same_yes (lt_z (date_of_count z).year year) (lt_z z first) (λ t. sym counts ∙ o.0 (by_year t))
    (λ t. first_of_year year (date_of_count z) v (o.1 (counts ∙ t)))

-- so the days of the years from..to are those from the first day of the one to the day before the year after the other
pub days_of_years :
    (z : ℤ) → outside first_count last_count z ≡ false → (from to first last : ℤ) → days_answer from (pos 1) (pos 1) ≡ value first →
    days_answer (to +ℤ pos 1) (pos 1) (pos 1) ≡ value (last +ℤ pos 1) → outside from to (date_of_count z).year ≡ outside first last z
days_of_years z h from to first last e f =
    outside_as (date_of_count z).year from to z first last (in_earlier_year z h from first e) (in_earlier_year z h (to +ℤ pos 1) (last +ℤ pos 1) f)
