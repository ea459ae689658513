use Prim.Native.Nat.{◌+◌, ◌-◌, ◌%◌}
use mathlib.Core.Path.{◌≡◌, sym, ap, ◌∙◌}
use native.Mathlib.Omega.{arith}
use lib.ListN.{get_or}
use Rattle.calendar.specs.Closed.{cycle, start, public}
use Rattle.calendar.proofs.Order.{start_step}
use Rattle.calendar.proofs.Conversion.{made}
use Rattle.calendar.proofs.YearTable.{year_of_day, date_in_cycle}
use Rattle.calendar.proofs.audit.YearStarts.date_of.Goals as goal
use Rattle.calendar.proofs.audit.YearStarts.date_of.Goals.{After-year_of-y}

-- the entry of the year that was found
entry : (c : After-year_of-y) → get_or c.args.self.now.days c.year_of-y.result 0 ≡ start c.year_of-y.result
entry c = c.args.self.now.filled.at c.year_of-y.result (omega arith)

pub month_of-month-requires : goal.month_of-month-requires
month_of-month-requires c = omega (arith, entry (goal.at.month_of-month-requires c).After-year_of-y, start_step c.year_of-y.result)

pub returns : goal.returns
returns c =
    let n = c.args.day.number in
    let y = c.year_of-y.result in
    let k = (n + cycle) % cycle - get_or c.args.self.now.days y 0 in
    let m = c.month_of-month.result.number in
    let w = c.month_of-month.result.in_year in
    let i = c.month_of-month.ensures in
    made (year_of_day n y) m (k - c.days_before_month.result + 1) (omega arith) (omega arith) (omega arith)
    ∙ ap (λ b. public (year_of_day n y) m (k - b + 1)) c.days_before_month.ensures.0
    ∙ sym (date_in_cycle y m k w.0 w.1 i.0 i.1 n (omega (arith, entry (goal.at.returns c).After-year_of-y)))
