use mathlib.Core.Path.{◌≡◌}
use lib.ListN.{take}
use Rattle.text.proofs.store_part.Given as goal

abbrev pub invariant-loop-i : goal.invariant-loop-i
invariant-loop-i l = take l.i l.to ≡ take l.i l.piece
