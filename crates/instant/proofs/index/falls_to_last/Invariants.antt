-- What is left of the list goes on from the instant before it.
use Rattle.std.proofs.Common.{◌≡◌, drop, [], ◌∷◌, ◌++◌}
use Rattle.instant.specs.Units.{last_instant}
use Rattle.instant.specs.Checked.{falls_from}
use Rattle.instant.proofs.index.falls_to_last.Given as goal

abbrev pub invariant-loop-instant : goal.invariant-loop-instant
invariant-loop-instant l =
    falls_from l.fn.before (l.instants ++ last_instant ∷ []) ≡ falls_from l.before (drop l.instant-index l.instants ++ last_instant ∷ [])
