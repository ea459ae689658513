-- The tests of the year, the month and the day make a date of the range.
use Rattle.std.proofs.Common.{arith}
use Rattle.calendar.specs.Checked.{public_date}
use Rattle.calendar.proofs.Dates.{date_accepts, date_in_range}
use Rattle.calendar.proofs.checked_date.CheckedDateTryFromDate.try_from.Goals as goal

pub invariant_of-result : goal.invariant_of-result
invariant_of-result c =
    let d = c.args.date in
    record { in_range = grind (arith, date_in_range d.year d.month d.day) }

pub returns : goal.returns
unfolding public_date
returns c =
    let d = c.args.date in
    grind (arith, date_accepts d.year d.month d.day)
