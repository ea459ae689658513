-- What the contracts of the single steps and of the loop of a batch say.
use Rattle.std.specs.Prelude.{ℕ, cond, ℤ, pos, nat_abs, Option, drop}
use mathlib.Core.List.{List, foldl}
use Rattle.refusal.specs.Outcome.{Outcome, value, refused}
use Rattle.numbers.specs.Range.{outside}
use Rattle.transport.specs.Answers.{so_far, one_more}
use Rattle.transport.specs.declared.Batch.{Batch}

-- a number in 0..last, as a natural number
abbrev pub number_within : (last z : ℤ) → Outcome ℕ
number_within last z = cond (outside (pos 0) last z) (refused 14) (value (nat_abs z))

-- a batch from a clock on, with the values before `start` done and so many of them passed over
unfoldable pub going_on : Option ℤ → (skipped start : ℕ) → List ℤ → Batch
going_on clock skipped start values = foldl one_more (so_far clock skipped) (drop start values)
