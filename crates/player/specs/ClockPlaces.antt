-- What a batch of the transport clock leaves in the clock's two numbers.
use Rattle.std.specs.Prelude.{ℕ, cond, List, eqb, Option, None, Some, ℤ}
use Rattle.transport.specs.declared.Batch.{Batch}
use Rattle.player.specs.Returned.{clock_numbers}

abbrev pub heard_at : Option ℤ → (before : List ℤ) → List ℤ
heard_at None before = before
heard_at (Some position) before = clock_numbers position

-- what they were, where each of the values was passed over
abbrev pub after_batch : (count : ℕ) → Batch → (before : List ℤ) → List ℤ
after_batch count batch before = cond (eqb batch.skipped count) before (heard_at batch.clock before)
