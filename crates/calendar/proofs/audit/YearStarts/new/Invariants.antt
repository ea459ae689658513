use Prim.Native.Nat.{◌+◌}
use mathlib.Core.Path.{◌≡◌}
use lib.ListN.{length}
use Rattle.calendar.proofs.YearTable.{Filled}
use Rattle.calendar.proofs.audit.YearStarts.new.Given as goal

abbrev pub invariant-loop-y : goal.invariant-loop-y
invariant-loop-y l = (length l.days ≡ 401) × Filled l.days (l.y + 1)
