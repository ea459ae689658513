-- The date is accepted or refused by itself; then the shift is tested against what the range leaves on either side of its count.
use lib.IntN.{◌+ℤ◌}
use mathlib.Core.Bool.{Bool, false}
use mathlib.Core.Path.{◌≡◌, sym, ap, ◌∙◌}
use Rattle.refusal.specs.Outcome.{value}
use Rattle.numbers.specs.Range.{outside, since}
use Rattle.numbers.proofs.Machine.{read}
use Rattle.calendar.specs.Range.{first_count, last_count}
use Rattle.calendar.specs.Gregorian.{date_after}
use Rattle.calendar.specs.Count.{date_of_count}
use Rattle.calendar.proofs.Dates.{days_inside, added_inside, added_outside}
use Rattle.calendar.proofs.Shift.{first_subtracts, last_subtracts, sum_tested, sum_fits, sum_is}
use Rattle.calendar.proofs.add_days.Goals as goal
use Rattle.calendar.proofs.add_days.Goals.{After-outside, Else-outside, In_ok-count}

-- an accepted date: its count lies in the range
in_range_lem : (c : In_ok-count) → outside first_count last_count c.in_ok-count.count ≡ false
in_range_lem c = let d = c.args.date in days_inside d.year d.month d.day c.in_ok-count.count c.in_ok-count.ensures

pub overflow_sub-count : goal.overflow_sub-count
overflow_sub-count c = first_subtracts c.in_ok-count.count c.args.days (in_range_lem c) c.ranges.days

pub overflow_sub-count-2 : goal.overflow_sub-count-2
overflow_sub-count-2 c = last_subtracts c.in_ok-count.count c.args.days (in_range_lem c) c.ranges.days

-- what the test of the shift says of the sum
shift_tested : (c : After-outside) {t : Bool} → c.outside.result ≡ t → outside first_count last_count (c.in_ok-count.count +ℤ c.args.days) ≡ t
shift_tested c h = sum_tested c.in_ok-count.count c.args.days (in_range_lem c.before) c.ranges.days ∙ sym c.outside.ensures ∙ h

pub returns-then-outside : goal.returns-then-outside
returns-then-outside c =
    let d = c.args.date in
    added_outside d.year d.month d.day c.in_ok-count.count c.in_ok-count.ensures c.args.days (shift_tested c.before c.if-outside.true)

-- the code reads the sum as it is
read_as_is : (c : Else-outside) → read (read c.in_ok-count.count +ℤ read c.args.days) ≡ c.in_ok-count.count +ℤ c.args.days
read_as_is c =
    sum_is c.in_ok-count.count c.args.days (in_range_lem c.before.before) c.ranges.days (shift_tested c.before c.if-outside.false)

pub overflow_add-count : goal.overflow_add-count
overflow_add-count c =
    sum_fits c.in_ok-count.count c.args.days (in_range_lem c.before.before) c.ranges.days (shift_tested c.before c.if-outside.false)

pub of_tested_count-requires : goal.of_tested_count-requires
of_tested_count-requires c = ap (outside first_count last_count) (read_as_is c) ∙ shift_tested c.before c.if-outside.false

pub returns : goal.returns
unfolding date_of_count
returns c =
    let d = c.args.date in
    let s = (goal.at.returns c).Else-outside in
    ap value (c.date_of.ensures ∙ ap date_after (c.of_tested_count.ensures ∙ ap (since first_count) (read_as_is s)))
    ∙ added_inside d.year d.month d.day c.in_ok-count.count c.in_ok-count.ensures c.args.days (shift_tested s.before c.if-outside.false)
