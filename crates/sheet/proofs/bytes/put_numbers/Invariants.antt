use mathlib.Core.Path.{◌≡◌}
use lib.ListN.{take}
use Rattle.text.specs.Filled.{filled}
use Rattle.sheet.specs.Sheet.{numbers_bytes}
use Rattle.sheet.proofs.bytes.put_numbers.Given as goal

abbrev pub invariant-loop-i : goal.invariant-loop-i
invariant-loop-i l = l.out ≡ filled l.at (numbers_bytes (take l.i l.numbers)) l.initial.out
