use Rattle.calendar.proofs.Centuries.{century_leap}
use Rattle.calendar.proofs.Leap.{leap_le}
use Rattle.std.proofs.Common.{◌+◌, ◌*◌, arith}
use Rattle.labels.proofs.date.leap_day.Goals as goal
use Rattle.labels.proofs.date.leap_day.Goals.{then-year-eq0, else-year-eq0}

pub returns : goal.returns
returns c = let a = c.args in
    let k = c.if-year-eq0 in
    let e =
    century_leap a.century a.year k.n c.requires.1
    (λ z. elim k.branch [ then-year-eq0 t ↦ t.n-is | else-year-eq0 t ↦ absurd (t.if-year-eq0.false z) ])
    (λ z. elim k.branch [ then-year-eq0 t ↦ absurd (z t.if-year-eq0.true) | else-year-eq0 t ↦ t.n-is ]) in
    (e, omega (arith, e, leap_le (100 * a.century + a.year)))
