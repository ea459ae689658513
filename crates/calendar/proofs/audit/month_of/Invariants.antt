use Prim.Native.Nat.{◌+◌, ◌≤◌, ◌<◌}
use Rattle.calendar.specs.Closed.{leap_day, before}
use Rattle.calendar.proofs.audit.month_of.Given as goal

abbrev pub invariant-loop-number : goal.invariant-loop-number
invariant-loop-number l = (1 ≤ l.number) × (l.k < before (leap_day l.y) (l.number + 1))
