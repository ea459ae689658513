-- What is left of the block goes on from the instant before it.
use Rattle.std.proofs.Common.{◌≡◌, drop}
use Rattle.std.specs.Prelude.{◌||◌}
use Rattle.instant.specs.Checked.{falls_from}
use Rattle.instant.proofs.index.eight_fall.Given as goal

abbrev pub invariant-loop-instant : goal.invariant-loop-instant
invariant-loop-instant l = falls_from l.fn.before l.block ≡ l.falls || falls_from l.before (drop l.instant-index l.block)
