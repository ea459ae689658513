-- The first days are those of the first instants.
use Rattle.std.proofs.Common.{◌≡◌, map, take}
use Rattle.instant.specs.Instant.{day_of}
use Rattle.instant.proofs.index.fill_each.Given as goal

abbrev pub invariant-loop-i : goal.invariant-loop-i
invariant-loop-i l = take l.i l.days ≡ map day_of (take l.i l.instants)
