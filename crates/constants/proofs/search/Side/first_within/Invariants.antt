-- The loop's invariant: some residue below `high` has a gap within the bound, and none below `low`.
use Prim.Native.Nat.{◌-◌, ◌≤◌, ◌<◌}
use Rattle.constants.specs.Sides.{SomeGap}
use Rattle.constants.proofs.search.Side.first_within.Given as goal

abbrev pub invariant-loop-low : goal.invariant-loop-low
invariant-loop-low l =
    (l.high ≤ l.end) × (l.low < l.high) × (SomeGap l.self l.low l.bound → ⊥) × SomeGap l.self l.high l.bound

abbrev pub decreases-loop-low : goal.decreases-loop-low
decreases-loop-low l = l.high - l.low
