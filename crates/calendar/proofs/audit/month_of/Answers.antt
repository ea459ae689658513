use Prim.Native.Nat.{◌+◌}
use mathlib.Core.Path.{◌≡◌, refl, ap}
use native.Mathlib.Omega.{arith}
use Rattle.calendar.specs.Closed.{leap_day, before}
use Rattle.calendar.proofs.Months.{before_step, before_first, year_end}
use Rattle.calendar.proofs.audit.month_of.Goals as goal

pub loop-number-init : goal.loop-number-init
loop-number-init c = (omega arith, omega (arith, before_step (leap_day c.args.y) 12, year_end (leap_day c.args.y) 12 refl, c.requires))

pub returns-then-days_before_month-k : goal.returns-then-days_before_month-k
returns-then-days_before_month-k c =
    (omega (arith, c.days_before_month.ensures.0), omega (arith, before_step (leap_day c.args.y) c.loop-number.number))

pub returns : goal.returns
returns c =
    let l = leap_day c.args.y in
    let e : c.loop-number.number ≡ 1 = omega arith in
    (omega (arith, before_first l), omega (arith, before_step l 1, ap (λ m. before l (m + 1)) e))
