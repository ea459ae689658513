use Prim.Native.Nat.{◌/◌, ◌%◌}
use mathlib.Core.Path.{ap, ◌∙◌}
use Rattle.calendar.proofs.DateByProducts.{parts, date_is}
use Rattle.calendar.proofs.month_table.date_of.Goals as goal

pub returns : goal.returns
returns c =
    let e = c.month_and_day-entry.ensures in
    let p = parts c.day_of_year.result in
    date_is c.args.day.number c.args.day.in_range c.regular-d.ensures c.january_year.ensures c.day_of_year.ensures
    (ap (λ x. x / 256) e ∙ p.0) (ap (λ x. x % 256) e ∙ p.1)
