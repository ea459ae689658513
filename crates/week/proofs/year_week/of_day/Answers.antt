use Prim.Native.Nat.{◌+◌, ◌-◌, ◌*◌, ◌/◌, ◌%◌, ◌^◌}
use mathlib.Core.Path.{sym, ap, ◌∙◌, subst}
use native.Mathlib.Omega.{arith}
use Rattle.week.specs.Closed.{first_day, InYear}
use Rattle.calendar.proofs.Quotients.{coded_is, year_product}
use Rattle.calendar.specs.Closed.{regular_day}
use Rattle.week.proofs.Products.{week_is, in_year, day_is}
use Rattle.week.proofs.year_week.of_day.Goals as goal

pub returns : goal.returns
returns c =
    let n = c.args.n in
    let h = c.requires in
    let e = coded_is n (omega arith) in
    let y = ap (λ r. r * 23517959 / 2 ^ 33) e ∙ year_product (regular_day n) (omega arith) in
    let w = ap (λ r. r * 23517959 % 2 ^ 33 * 13357 / 2 ^ 41 + 1) e ∙ ap (λ k. k + 1) (week_is n (omega arith)) in
    (subst (InYear n) (sym y) (in_year n), w ∙ ap (λ k. k / 7 + 1) (sym (day_is n)) ∙ ap (λ y. (n - first_day y) / 7 + 1) (sym y))
