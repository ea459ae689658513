-- What is handed back of an answer whose refusal may hand back a number of any type.
use Rattle.std.specs.Prelude.{ℤ, Result, Ok, Err}
use Rattle.refusal.specs.Numbers.{refusal_number}
use Rattle.refusal.specs.Outcome.{Outcome, value, refused}
use Rattle.refusal.specs.declared.RefusalAt.{RefusalAt}
use Rattle.refusal.specs.declared.RefusalAt.TheVariants.{Alone, At}

-- the outcome, but for the number that a refusal hands back
abbrev pub outcome_alone : {A N : Type 0} → Result A (RefusalAt N) → Outcome A
outcome_alone (Ok a) = value a
outcome_alone (Err (Alone why)) = refused (refusal_number why)
outcome_alone (Err (At why n)) = refused (refusal_number why)

-- what its place holds after the call
abbrev pub handed_back : {A N : Type 0} → (number : N → ℤ) → Result A (RefusalAt N) → (before : ℤ) → ℤ
handed_back number (Ok a) before = before
handed_back number (Err (Alone why)) before = before
handed_back number (Err (At why n)) before = number n
