-- The batch from the next value on, at the position that is reached, is the batch from the start on.
use Prim.Native.Nat.{◌+◌, ◌≤◌}
use mathlib.Core.Path.{◌≡◌}
use lib.IntN.{pos}
use Rattle.std.specs.Prelude.{Some}
use Rattle.transport.specs.Batches.{going_on}
use Rattle.transport.proofs.steps.run.Given as goal

abbrev pub invariant-loop-heard : goal.invariant-loop-heard
invariant-loop-heard l =
    (l.skipped ≤ l.start + l.heard-index)
    × (going_on (Some (pos l.reached.ticks)) l.skipped (l.start + l.heard-index) l.values ≡ going_on (Some (pos l.fn.from.ticks)) l.start l.start l.values)
