use Rattle.calendar.proofs.Leap.{tested_leap_le}
use Rattle.calendar.proofs.Months.{table_entry, before_leap}
use Rattle.calendar.specs.Closed.{leap_day}
use mir.Val.{bool_byte}
use lib.Dec.{ltb}
use native.Mathlib.Omega.{arith}
use Prim.Native.Nat.{◌+◌, ◌*◌, ◌≤◌}
use mathlib.Core.Path.{ap₂, ◌∙◌}
use Rattle.calendar.proofs.year.days_before_month.Goals as goal
use Rattle.calendar.proofs.year.days_before_month.Goals.{After-leap_day}

small : (c : After-leap_day) → bool_byte (ltb 2 c.args.month.number) * c.leap_day.result ≤ 1
small c = tested_leap_le (ltb 2 c.args.month.number) c.leap_day.result c.leap_day.ensures.1

pub returns : goal.returns
returns c = let a = c.args in
    let m = a.month.number in
    let p = a.month.in_year in (
      ap₂ (λ b l. b + bool_byte (ltb 2 m) * l) (c.days_before.ensures.0 ∙ (table_entry m p.0 p.1).0) c.leap_day.ensures.0
          ∙ before_leap (leap_day a.y) m p.0 p.1,
      omega (arith, small c, c.days_before.ensures.1),
    )
