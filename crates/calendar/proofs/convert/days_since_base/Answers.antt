use mathlib.Core.Path.{◌∙◌}
use Rattle.calendar.proofs.Months.{table_entry}
use Rattle.calendar.proofs.Conversion.{day_number_lem}
use native.Mathlib.Omega.{arith}
use Rattle.calendar.proofs.convert.days_since_base.Goals as goal

-- what the sum comes to
pub returns : goal.returns
returns c = let a = c.args.date in
    let v = a.in_range.is_valid in
    day_number_lem a.year a.month.number a.day c.days_before.result a.in_range (c.days_before.ensures.0 ∙ (table_entry a.month.number v.month_low v.month_high).0)

pub overflow_add-result-2 : goal.overflow_add-result-2
overflow_add-result-2 c = record { fits = omega (arith, (returns c).1.1) }

pub overflow_add-result-4 : goal.overflow_add-result-4
overflow_add-result-4 c = record { fits = omega (arith, (returns c).1.1) }
