-- What a batch leaves in a clock's two numbers is what its values leave there one behind the other.
use Prim.Native.Nat.{ℕ, suc, ◌+◌}
use mathlib.Core.Path.{◌≡◌, refl, sym, ap, ◌∙◌}
use mathlib.Core.Bool.{Bool, true, false, cond}
use mathlib.Core.List.{List, [], ◌∷◌}
use native.Mathlib.Omega.{arith}
use lib.Dec.{eqb}
use lib.IntN.{ℤ}
use lib.ListN.{length}
use borrow.Author.Tests.{eq-eqb, ne_eqb, eqb-true, eqb-false}
use Rattle.std.specs.Prelude.{Option, Some}
use Rattle.refusal.specs.Outcome.{Outcome, value, refused, refused_at, after_call}
use Rattle.transport.specs.Answers.{follow_answer, clock_after, if_refused, so_far, follow_all_answer}
use Rattle.transport.specs.declared.Batch.{Batch}
use Rattle.transport.specs.declared.Position.{Position}
use Rattle.transport.proofs.Laws.{first_and_rest, skipped_at_most, all_passed_over, stays_heard}
use Rattle.player.specs.Returned.{clock_of, clock_numbers, clock_after_value, clock_after_values}
use Rattle.player.specs.ClockPlaces.{heard_at, after_batch}

-- what a batch leaves, by whether it passed over all its values
module _ (count : ℕ) (batch : Batch) (before : List ℤ) where
  pub all_over : batch.skipped ≡ count → after_batch count batch before ≡ before
  all_over e = ap (λ t. cond t before (heard_at batch.clock before)) (eq-eqb batch.skipped count e)

  not_all_over : (batch.skipped ≡ count → ⊥) → after_batch count batch before ≡ heard_at batch.clock before
  not_all_over h = ap (λ t. cond t before (heard_at batch.clock before)) (ne_eqb batch.skipped count h)

-- both counts one higher
next_eqb : (m n : ℕ) → eqb (1 + m) (suc n) ≡ eqb m n
next_eqb m n = go (eqb m n) refl
  where
    go : (t : Bool) → eqb m n ≡ t → eqb (1 + m) (suc n) ≡ t
    go true e = eq-eqb (1 + m) (suc n) (omega (arith, eqb-true m n e))
    go false e = ne_eqb (1 + m) (suc n) (λ h. eqb-false m n e (omega arith))

-- a batch from a position leaves the same two numbers whatever stood there before
from_there :
    (position : ℤ) (numbers values : List ℤ) → let rest = follow_all_answer (Some position) values in
    heard_at rest.clock numbers ≡ after_batch (length values) rest (clock_numbers position)
from_there position numbers values = go (eqb rest.skipped (length values)) refl
  where
    rest : Batch
    rest = follow_all_answer (Some position) values

    go :
        (t : Bool) → eqb rest.skipped (length values) ≡ t →
        heard_at rest.clock numbers ≡ cond t (clock_numbers position) (heard_at rest.clock (clock_numbers position))
    go true e = ap (λ c. heard_at c numbers) (all_passed_over (Some position) values (eqb-true _ _ e))
    go false e =
        let s = (stays_heard position values).1 in
        ap (λ c. heard_at c numbers) s ∙ sym (ap (λ c. heard_at c (clock_numbers position)) s)

-- the first value and then the rest
one_by_one :
    (numbers : List ℤ) (heard : ℤ) (values : List ℤ) → let then = clock_after_value numbers heard in
    after_batch (length (heard ∷ values)) (follow_all_answer (clock_of numbers) (heard ∷ values)) numbers
    ≡ after_batch (length values) (follow_all_answer (clock_of then) values) then
unfolding clock_after clock_after_value
one_by_one numbers heard values =
    ap (λ b. after_batch (length (heard ∷ values)) b numbers) (first_and_rest (clock_of numbers) heard values)
    ∙ go (follow_answer (clock_of numbers) heard)
  where
    after : Outcome Position → Option ℤ
    after o = after_call o (λ p. Some p.ticks) (clock_of numbers)

    then : Outcome Position → List ℤ
    then o = after_call o (λ p. clock_numbers p.ticks) numbers

    same : (rest : Batch) → after_batch (suc (length values)) (so_far rest.clock (1 + rest.skipped)) numbers ≡ after_batch (length values) rest numbers
    same rest = ap (λ t. cond t numbers (heard_at rest.clock numbers)) (next_eqb rest.skipped (length values))

    go :
        (o : Outcome Position) → let rest = follow_all_answer (after o) values in
        after_batch (length (heard ∷ values)) (so_far rest.clock (if_refused o + rest.skipped)) numbers
        ≡ after_batch (length values) (follow_all_answer (clock_of (then o)) values) (then o)
    go (value p) =
        let rest = follow_all_answer (Some p.ticks) values in
        let l = skipped_at_most (Some p.ticks) values in
        not_all_over (suc (length values)) (so_far rest.clock (0 + rest.skipped)) numbers (λ e. omega (arith, l, e))
        ∙ from_there p.ticks numbers values
    go (refused number) = same (follow_all_answer (clock_of numbers) values)
    go (refused_at number place) = same (follow_all_answer (clock_of numbers) values)

pub batch_place :
    (numbers values : List ℤ) → after_batch (length values) (follow_all_answer (clock_of numbers) values) numbers ≡ clock_after_values numbers values
unfolding follow_all_answer clock_after_values
batch_place numbers [] = refl
batch_place numbers (heard ∷ values) = one_by_one numbers heard values ∙ batch_place (clock_after_value numbers heard) values
