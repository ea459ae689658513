-- What a call hands back, in the numbers of the refusals, and what it leaves in what was lent. Each contract is an equation between
-- outcomes.
use Rattle.std.specs.Prelude.{ℕ}
use Rattle.std.specs.declared.result.Result.{Result}
use Rattle.std.specs.declared.result.Result.TheVariants.{Ok, Err}
use Rattle.refusal.specs.Numbers.{refusal_number}
use Rattle.refusal.specs.declared.Refusal.{Refusal}
use Rattle.refusal.specs.declared.RefusalAt.{RefusalAt}
use Rattle.refusal.specs.declared.RefusalAt.TheVariants.{Alone, At}

-- the value of an accepted call; a refusal's number and nothing else; or a refusal's number with the place or the least n that it hands back
pub data Outcome (A : Type 0) : Type 0 where
  value : A → Outcome A
  refused : ℕ → Outcome A
  refused_at : ℕ → ℕ → Outcome A

-- the outcome of an answer: its value, or the number of its refusal
abbrev pub outcome : {A : Type 0} → Result A Refusal → Outcome A
outcome (Ok a) = value a
outcome (Err r) = refused (refusal_number r)

-- and of one whose refusal may hand back a number
abbrev pub outcome_at : {A : Type 0} → Result A (RefusalAt ℕ) → Outcome A
outcome_at (Ok a) = value a
outcome_at (Err (Alone r)) = refused (refusal_number r)
outcome_at (Err (At r n)) = refused_at (refusal_number r) n

-- a call, and then what `next` answers to its value; a refusal stays as it is
abbrev pub and_then : {A B : Type 0} → Outcome A → (next : A → Outcome B) → Outcome B
and_then (value a) next = next a
and_then (refused number) next = refused number
and_then (refused_at number place) next = refused_at number place

-- what `f` makes of the value of an accepted call
abbrev pub map_value : {A B : Type 0} → (f : A → B) → Outcome A → Outcome B
map_value f o = and_then o (λ a. value (f a))

-- what something lent holds after a call: what an accepted call writes there, and on every refusal what it held before
abbrev pub after_call : {A B : Type 0} → Outcome A → (written : A → B) → (before : B) → B
after_call (value a) written before = written a
after_call (refused number) written before = before
after_call (refused_at number place) written before = before
