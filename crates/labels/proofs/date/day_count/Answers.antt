-- The month is tested by itself, and then the day against the length that the month's entry has; the sum is the day's number.
use Rattle.labels.specs.Parts.{month_entry}
use Rattle.labels.proofs.LabelDates.{entry_days, date_sum, date_sum_lem, count_made}
use Rattle.calendar.specs.Closed.{leap_day, month_days, Valid, day_number, to_year}
use Rattle.calendar.proofs.Centuries.{year_zero, month_refuses, day_refuses, valid_days}
use Rattle.calendar.proofs.Leap.{leap_le}
use Rattle.refusal.specs.Outcome.{value}
use Rattle.std.proofs.Common.{◌≡◌, ℕ, ◌+◌, ◌*◌, ◌%◌, ◌^◌, ◌<◌, ◌≤◌, ap, ◌∙◌, arith}
use Rattle.labels.specs.declared.date.LabelDate.{LabelDate}
use Rattle.labels.proofs.date.day_count.Goals as goal
use Rattle.labels.proofs.date.day_count.Goals.{then-date-lt1-2-via-then-date-lt1-2, then-date-lt1-2-via-else-date-lt1-2+then-date-entry, After-month_entry-entry}

-- the label's year, which is one of the range
abbrev year_of : LabelDate → ℕ
year_of date = 100 * date.century + date.year

in_range_lem : (date : LabelDate) → year_zero + year_of date ≤ to_year
in_range_lem date = omega (arith, date.two_digits)

pub returns-then-date-lt1 : goal.returns-then-date-lt1
returns-then-date-lt1 c =
    let date = c.args.date in
    month_refuses (year_of date) date.month date.day (in_range_lem date) (λ lo hi. omega (arith, c.then-date-lt1.either))

-- what is known of the month and its entry
module _ (c : After-month_entry-entry) where
  abbrev date : LabelDate
  date = c.args.date

  month_low : 1 ≤ date.month
  month_low = c.if-date-lt1.false

  month_high : date.month ≤ 12
  month_high = c.if-date-gt12.false

  entry_is : c.month_entry-entry.result ≡ month_entry (leap_day (year_of date)) date.month
  entry_is = c.month_entry-entry.ensures.0 ∙ ap (λ l. month_entry l date.month) c.leap_day.ensures.0

  length_is : c.month_entry-entry.result % 32 ≡ month_days (leap_day (year_of date)) date.month
  length_is =
      ap (λ e. e % 32) entry_is
      ∙ entry_days (leap_day (year_of date)) date.month (leap_le (year_of date)) month_low month_high

  abbrev sum : ℕ
  sum = date_sum date.century date.year c.month_entry-entry.result date.day

  sum_small : sum < 2 ^ 32
  sum_small = omega (arith, date.two_digits)

pub returns-then-date-lt1-2 : goal.returns-then-date-lt1-2
returns-then-date-lt1-2 c =
    let k = (goal.at.returns-then-date-lt1-2 c).After-month_entry-entry in
    let date = c.args.date in
    day_refuses (year_of date) date.month date.day (in_range_lem date) (month_low k) (month_high k)
    (λ lo hi. elim c.then-date-lt1-2.branch [
      | then-date-lt1-2-via-then-date-lt1-2 t ↦ omega arith
      | then-date-lt1-2-via-else-date-lt1-2+then-date-entry t ↦ omega (arith, length_is k)
    ])

pub returns : goal.returns
returns c =
    let k = (goal.at.returns c).After-month_entry-entry in
    let date = c.args.date in
    let v : Valid (year_of date) date.month date.day =
    record {
      month_low = month_low k;
      month_high = month_high k;
      day_low = c.if-date-lt1-2.false;
      day_high = omega (arith, c.if-date-entry.false, length_is k);
    } in
    ap value
    (count_made (sum k) (sum_small k) (day_number (year_of date) date.month date.day)
    (date_sum_lem date.century date.year date.month date.day k.month_entry-entry.result date.two_digits.1.0 v.month_low v.month_high v.day_low (entry_is k)))
    ∙ valid_days (year_of date) date.month date.day (in_range_lem date) v
