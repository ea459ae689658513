-- What the blocks to come and the rest hold goes on from the instant before them.
use Rattle.std.proofs.Common.{◌≡◌, ◌*◌, drop, [], ◌∷◌, ◌++◌}
use Rattle.instant.specs.Units.{last_instant}
use Rattle.instant.specs.Checked.{falls_from, faulty}
use Rattle.instant.proofs.index.is_faulty.Given as goal

abbrev pub invariant-loop-block : goal.invariant-loop-block
invariant-loop-block l = falls_from l.before (drop (l.block-index * 8) l.instants ++ last_instant ∷ []) ≡ faulty l.instants
