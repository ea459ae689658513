-- The first days are those of the instants of the first blocks.
use Rattle.std.proofs.Common.{◌≡◌, ◌*◌, map, take}
use Rattle.instant.specs.Instant.{day_of}
use Rattle.instant.proofs.index.fill_days.Given as goal

abbrev pub invariant-loop-i : goal.invariant-loop-i
invariant-loop-i l = take (l.i * 16) l.days ≡ map day_of (take (l.i * 16) l.instants)
