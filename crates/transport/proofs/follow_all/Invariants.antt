-- Where nothing has been heard, every value before `place` is passed over.
use mathlib.Core.Path.{◌≡◌}
use Rattle.std.specs.Prelude.{None}
use Rattle.transport.specs.Batches.{going_on}
use Rattle.transport.proofs.follow_all.Given as goal

abbrev pub invariant-loop-place : goal.invariant-loop-place
invariant-loop-place l = going_on None l.place l.place l.values ≡ going_on None 0 0 l.values
