-- the last digits stand from byte `i` on, and `rest` are those before them
use Prim.Native.Nat.{◌-◌, ◌/◌, ◌^◌}
use mathlib.Core.Path.{◌≡◌}
use lib.ListN.{length}
use Rattle.text.specs.Decimal.{digits}
use Rattle.text.specs.Filled.{filled}
use Rattle.text.proofs.store_digits.Given as goal

abbrev pub invariant-loop-i : goal.invariant-loop-i
invariant-loop-i l = (l.rest ≡ l.n / 10 ^ (length l.initial.to - l.i)) × (l.to ≡ filled l.i (digits l.n (length l.initial.to - l.i)) l.initial.to)
