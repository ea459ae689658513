-- The calls' answers, from what the test of the limits and the search tell.
use Rattle.std.specs.Prelude.{Option, Some, None, Ok}
use Prim.Native.Nat.{ℕ, ◌≤◌, ◌<◌}
use mathlib.Core.Path.{◌≡◌, refl, sym, ap, ◌∙◌}
use mathlib.Core.Bool.{Bool, true, false, cond, ◌||◌}
use native.Mathlib.Decide.{dec_lt}
use native.Mathlib.Omega.{arith}
use borrow.Author.Tests.{lt-ltb, le-ltb}
use lib.IntN.{ℤ, pos, nat_abs}
use Rattle.refusal.specs.Outcome.{Outcome, value, refused, refused_at}
use Rattle.numbers.proofs.Bools.{or_no}
use Rattle.numbers.proofs.Between.{natural_within}
use Rattle.constants.specs.declared.Constants.{Constants}
use Rattle.constants.specs.declared.trial.Trial.{Trial}
use Rattle.constants.specs.Difference.{apart, differs}
use Rattle.constants.specs.Least.{Found, at, none, least_below, NoneBelow}
use Rattle.constants.specs.Limits.{last_bound, outside_limits, end_outside, bound_outside}
use Rattle.constants.specs.Answers.{Acceptance, accepted, difference, difference_answer, claimed, bound_answer, search_outcome}
use Rattle.constants.specs.Trial.{IsTrialOf, exact, device, DifferenceAt}
use Rattle.constants.specs.Residues.{FirstOf, IsFirst}
use Rattle.constants.proofs.Least.{finds_at, finds_right}

-- constants outside their limits, and then an end or a bound
module _ (a b d m c k t end : ℤ) where
  pub search_refused : outside_limits a b d m c k t ≡ true → refused 9 ≡ difference_answer a b d m c k t end
  unfolding difference_answer
  search_refused h = rw h

  pub claim_refused : outside_limits a b d m c k t ≡ true → refused 9 ≡ bound_answer a b d m c k t end
  unfolding bound_answer
  claim_refused h = rw h

  pub end_refused : outside_limits a b d m c k t ≡ false → end_outside end ≡ true → refused 9 ≡ difference_answer a b d m c k t end
  unfolding difference_answer
  end_refused h e = rw (h, e)

  pub bound_refused : outside_limits a b d m c k t ≡ false → bound_outside end ≡ true → refused 9 ≡ bound_answer a b d m c k t end
  unfolding bound_answer
  bound_refused h e = rw (h, e)

-- constants within them, and what the search below n finds
module _ {given : Constants} {q : Trial} (p : IsTrialOf given q) where
  abbrev test : ℕ → Bool
  test = difference given.a given.b given.d given.m given.c given.k given.t

  test_is : (i : ℕ) → differs q.t (exact q) (device q) i ≡ test i
  unfolding difference
  test_is i = cc

  none_below : (n : ℕ) → ((i : ℕ) → i < n → DifferenceAt q i → ⊥) → NoneBelow test n
  unfolding differs
  none_below n h i lt = sym (test_is i) ∙ go (dec_lt q.t (apart (exact q i) (device q i)))
    where
      go : Dec (DifferenceAt q i) → differs q.t (exact q) (device q) i ≡ false
      go (yes y) = absurd (h i lt y)
      go (no x) = le-ltb q.t (apart (exact q i) (device q i)) (omega arith)

  least_at : (n r : ℕ) → FirstOf (DifferenceAt q) n r → least_below test n ≡ at r
  unfolding differs
  least_at n r h = finds_right test n (at r) (record { below = h.below; passes = sym (test_is r) ∙ lt-ltb _ _ h.here; least = none_below r h.before })

  least_none : (n : ℕ) → ((i : ℕ) → i < n → DifferenceAt q i → ⊥) → least_below test n ≡ none
  least_none n h = finds_right test n none (none_below n h)

  -- the search
  module _ (end : ℤ) (n : ℕ) (e : (end_outside end ≡ false) × (n ≡ nat_abs end)) where
    pub search_finds : (found : Option ℕ) → IsFirst (DifferenceAt q) n found
        → search_outcome (Ok found) ≡ difference_answer given.a given.b given.d given.m given.c given.k given.t end
    unfolding difference_answer
    search_finds (Some r) h = rw (p.inside, e.0, ← e.1) (ap value (sym (least_at n r h)))
    search_finds None h = rw (p.inside, e.0, ← e.1) (ap value (sym (least_none n h)))

  -- the claim
  module _ (bound : ℤ) (n : ℕ) (e : (bound_outside bound ≡ false) × (n ≡ nat_abs bound)) where
    pub claim_below : (r : ℕ) → IsFirst (DifferenceAt q) n (Some r) → refused_at 10 r ≡ bound_answer given.a given.b given.d given.m given.c given.k given.t bound
    unfolding bound_answer
    claim_below r h = rw (p.inside, e.0, ← e.1, least_at n r h)

    pub claim_at_bound : IsFirst (DifferenceAt q) n None → differs q.t (exact q) (device q) n ≡ true
        → value accepted ≡ bound_answer given.a given.b given.d given.m given.c given.k given.t bound
    unfolding bound_answer
    claim_at_bound h i = let j : test n ≡ true = sym (test_is n) ∙ i in rw (p.inside, e.0, ← e.1, least_none n h, j)

    pub claim_nowhere : IsFirst (DifferenceAt q) n None → differs q.t (exact q) (device q) n ≡ false
        → refused 11 ≡ bound_answer given.a given.b given.d given.m given.c given.k given.t bound
    unfolding bound_answer
    claim_nowhere h i = let j : test n ≡ false = sym (test_is n) ∙ i in rw (p.inside, e.0, ← e.1, least_none n h, j)

-- the four answers to a claim, and what is known of the least n
module _ (a b d m c k t bound : ℤ) (P : Outcome Acceptance → Type 0) where
  pub claim_cases :
      P (refused 9) → ((n : ℕ) → n < nat_abs bound → nat_abs bound ≤ last_bound → P (refused_at 10 n)) → P (value accepted) → P (refused 11) →
      P (bound_answer a b d m c k t bound)
  unfolding bound_answer
  claim_cases nine ten good eleven =
      go (outside_limits a b d m c k t || bound_outside bound) refl (least_below D (nat_abs bound)) refl (D (nat_abs bound))
    where
      D : ℕ → Bool
      D = difference a b d m c k t

      go :
          (out : Bool) → (outside_limits a b d m c k t || bound_outside bound) ≡ out → (found : Found) → least_below D (nat_abs bound) ≡ found → (here : Bool) →
          P (cond out (refused 9) (claimed found here))
      go true e found f here = nine
      go false e (at n) f here =
          ten n ((finds_at D (nat_abs bound) n).0 f).below
          (natural_within 0 (pos last_bound) bound (or_no (outside_limits a b d m c k t) (bound_outside bound) e).1).high
      go false e none f true = good
      go false e none f false = eleven
