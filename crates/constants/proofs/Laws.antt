-- Demand 3, sentence by sentence, and the search's answers: each exactly when. Every allowed number is a natural one (`AllWithin`), so
-- the constants are natural numbers here; 9 is for whole numbers.
use Prim.Native.Nat.{ℕ, ◌≤◌, ◌<◌}
use mathlib.Core.Path.{◌≡◌, refl, sym, ap, ◌∙◌}
use mathlib.Core.Bool.{Bool, true, false, cond, ◌||◌}
use mathlib.Core.Logic.Iff
use mathlib.Core.Logic.{◌↔◌, ◌⊎◌, inl, inr}
use native.Mathlib.Decide.{dec_lt}
use native.Mathlib.Omega.{arith}
use borrow.Author.Tests.{ltb-true, ltb-false, lt-ltb, le-ltb}
use lib.IntN.{ℤ, pos, nat_abs}
use Rattle.refusal.specs.Outcome.{Outcome, value, refused, refused_at}
use Rattle.refusal.proofs.Outcomes.{clash}
use Rattle.numbers.proofs.Bools.{no_both}
use Rattle.constants.specs.Difference.{exact_quotient, device_quotient, apart, differs}
use Rattle.constants.specs.Least.{Found, at, none, least_below, NoneBelow, FirstAt}
use Rattle.constants.specs.Limits.{outside_limits, end_outside, bound_outside}
use Rattle.constants.specs.Answers.{difference, Acceptance, accepted, difference_answer, claimed, bound_answer}
use Rattle.constants.proofs.Least.{finds_at, finds_none, least_stays}

-- the answers by what is found below the end or the bound, and whether there is a difference at the bound
found_exactly : (f g : Found) → (value f ≡ value g) ↔ (f ≡ g)
found_exactly f g = (λ e. cc, ap value)

claimed_accepted : (f : Found) (here : Bool) → (claimed f here ≡ value accepted) ↔ ((f ≡ none) × (here ≡ true))
claimed_accepted (at n) here = (λ e. clash (cc), λ p. clash (cc))
claimed_accepted none true = (λ e. (refl, refl), λ p. refl)
claimed_accepted none false = (λ e. clash (cc), λ p. clash (cc))

claimed_below : (f : Found) (here : Bool) (n : ℕ) → (claimed f here ≡ refused_at 10 n) ↔ (f ≡ at n)
claimed_below (at i) here n = (λ e. cc, λ e. cc)
claimed_below none true n = (λ e. clash (cc), λ e. clash (cc))
claimed_below none false n = (λ e. clash (cc), λ e. clash (cc))

claimed_none : (f : Found) (here : Bool) → (claimed f here ≡ refused 11) ↔ ((f ≡ none) × (here ≡ false))
claimed_none (at n) here = (λ e. clash (cc), λ p. clash (cc))
claimed_none none true = (λ e. clash (cc), λ p. clash (cc))
claimed_none none false = (λ e. (refl, refl), λ p. refl)

claimed_three : (f : Found) (here : Bool)
    → (claimed f here ≡ value accepted) ⊎ ((n : ℕ) × (claimed f here ≡ refused_at 10 n)) ⊎ (claimed f here ≡ refused 11)
claimed_three (at n) here = inr (inl (n, refl))
claimed_three none true = inl refl
claimed_three none false = inr (inr refl)

-- 9, exactly when a number is outside its limits
refused_exactly : {A : Type 0} (x : Outcome A) → (x ≡ refused 9 → ⊥) → (outside : Bool) → (cond outside (refused 9) x ≡ refused 9) ↔ (outside ≡ true)
refused_exactly x never true = (λ e. refl, λ e. refl)
refused_exactly x never false = (λ e. absurd (never e), λ e. clash (cc))

never_nine : (f : Found) (here : Bool) → claimed f here ≡ refused 9 → ⊥
never_nine (at n) here e = clash (cc)
never_nine none true e = clash (cc)
never_nine none false e = clash (cc)

module _ (a b d m c k t : ℤ) where
  abbrev test : ℕ → Bool
  test = difference a b d m c k t

  pub search_nine_exactly : (end : ℤ) → (difference_answer a b d m c k t end ≡ refused 9) ↔ ((outside_limits a b d m c k t || end_outside end) ≡ true)
  unfolding difference_answer
  search_nine_exactly end = refused_exactly (value (least_below test (nat_abs end))) (λ e. clash (cc)) (outside_limits a b d m c k t || end_outside end)

  pub claim_nine_exactly : (bound : ℤ) → (bound_answer a b d m c k t bound ≡ refused 9) ↔ ((outside_limits a b d m c k t || bound_outside bound) ≡ true)
  unfolding bound_answer
  claim_nine_exactly bound =
      let f = least_below test (nat_abs bound) in
      refused_exactly (claimed f (test (nat_abs bound))) (never_nine f (test (nat_abs bound))) (outside_limits a b d m c k t || bound_outside bound)

  module _ (end : ℤ) (inside : (outside_limits a b d m c k t || end_outside end) ≡ false) where
    search_is : difference_answer a b d m c k t end ≡ value (least_below test (nat_abs end))
    unfolding difference_answer
    search_is = rw inside

    -- a shorter search tells the answer, if it finds something
    pub found_early : (l n : ℕ) → least_below (difference a b d m c k t) l ≡ at n → l ≤ nat_abs end → difference_answer a b d m c k t end ≡ value (at n)
    found_early l n e le = search_is ∙ ap value (least_stays test l (nat_abs end) n e le)

module _ (a b d m c k t : ℕ) where
  abbrev D : ℕ → Bool
  D = difference (pos a) (pos b) (pos d) (pos m) (pos c) (pos k) (pos t)

  -- "a difference at n means that the two are more than t apart"
  pub difference_exactly : (n : ℕ)
      → (difference (pos a) (pos b) (pos d) (pos m) (pos c) (pos k) (pos t) n ≡ true)
      ↔ (t < apart (exact_quotient a b d n) (device_quotient m c k n))
  unfolding difference differs
  difference_exactly n = (ltb-true _ _, lt-ltb _ _)

  pub close_exactly : (n : ℕ)
      → (difference (pos a) (pos b) (pos d) (pos m) (pos c) (pos k) (pos t) n ≡ false)
      ↔ (apart (exact_quotient a b d n) (device_quotient m c k n) ≤ t)
  unfolding difference differs
  close_exactly n = (ltb-false _ _, le-ltb _ _)

  all_close : (l : ℕ) → NoneBelow D l ↔ ((n : ℕ) → n < l → apart (exact_quotient a b d n) (device_quotient m c k n) ≤ t)
  all_close l = (λ f n lt. (close_exactly n).0 (f n lt), λ f n lt. (close_exactly n).1 (f n lt))

  -- the search: "the least n below L with a difference, or 'none below L'"
  module _ (L : ℕ) (inside : (outside_limits (pos a) (pos b) (pos d) (pos m) (pos c) (pos k) (pos t) || end_outside (pos L)) ≡ false) where
    same_found : {f : Found} → (difference_answer (pos a) (pos b) (pos d) (pos m) (pos c) (pos k) (pos t) (pos L) ≡ value f) ↔ (least_below D L ≡ f)
    same_found {f} =
        let e = search_is (pos a) (pos b) (pos d) (pos m) (pos c) (pos k) (pos t) (pos L) inside in
        (λ p. (found_exactly (least_below D L) f).0 (sym e ∙ p), λ p. e ∙ ap value p)

    pub search_at_exactly : (n : ℕ)
        → (difference_answer (pos a) (pos b) (pos d) (pos m) (pos c) (pos k) (pos t) (pos L) ≡ value (at n))
        ↔ FirstAt (difference (pos a) (pos b) (pos d) (pos m) (pos c) (pos k) (pos t)) L n
    search_at_exactly n = Iff.trans same_found (finds_at D L n)

    pub search_none_exactly :
        (difference_answer (pos a) (pos b) (pos d) (pos m) (pos c) (pos k) (pos t) (pos L) ≡ value none)
        ↔ NoneBelow (difference (pos a) (pos b) (pos d) (pos m) (pos c) (pos k) (pos t)) L
    search_none_exactly = Iff.trans same_found (finds_none D L)

  -- the claim
  module _ (B : ℕ) (inside : (outside_limits (pos a) (pos b) (pos d) (pos m) (pos c) (pos k) (pos t) || bound_outside (pos B)) ≡ false) where
    abbrev pub answer : Outcome Acceptance
    answer = bound_answer (pos a) (pos b) (pos d) (pos m) (pos c) (pos k) (pos t) (pos B)

    claim_is : answer ≡ claimed (least_below D B) (D B)
    unfolding bound_answer
    claim_is = rw inside

    same : {x : Outcome Acceptance} → (answer ≡ x) ↔ (claimed (least_below D B) (D B) ≡ x)
    same = (λ e. sym claim_is ∙ e, λ e. claim_is ∙ e)

    -- "For any multiplier, offset, shift, exact fraction, tolerance and claimed bound within the listed limits, the constants checker
    -- gives one of three answers."
    pub one_of_three : (answer ≡ value accepted) ⊎ ((n : ℕ) × (answer ≡ refused_at 10 n)) ⊎ (answer ≡ refused 11)
    one_of_three = rw claim_is (claimed_three (least_below D B) (D B))

    -- "It accepts the bound exactly when the multiply-shift quotient stays within the tolerance of the exact floored quotient at every
    -- smaller input and is farther off at the bound itself."
    pub accepted_exactly :
        (answer ≡ value accepted)
        ↔ (((n : ℕ) → n < B → apart (exact_quotient a b d n) (device_quotient m c k n) ≤ t) × (t < apart (exact_quotient a b d B) (device_quotient m c k B)))
    accepted_exactly =
        let i = claimed_accepted (least_below D B) (D B) in (
          λ e. let p = i.0 (same.0 e) in ((all_close B).0 ((finds_none D B).0 p.0), (difference_exactly B).0 p.1),
          λ p. same.1 (i.1 ((finds_none D B).1 ((all_close B).1 p.0), (difference_exactly B).1 p.1)),
        )

    -- "It turns the claim down and names an input exactly when the two are farther apart than the tolerance at some input below the
    -- bound."
    pub some_below_exactly :
        ((n : ℕ) × (answer ≡ refused_at 10 n))
        ↔ ((n : ℕ) × (n < B) × (t < apart (exact_quotient a b d n) (device_quotient m c k n)))
    some_below_exactly = (named, λ p. go (least_below D B) refl p.0 p.1 p.2)
      where
        named : (n : ℕ) × (answer ≡ refused_at 10 n) → (n : ℕ) × (n < B) × (t < apart (exact_quotient a b d n) (device_quotient m c k n))
        named e =
            let f = (finds_at D B e.0).0 ((claimed_below (least_below D B) (D B) e.0).0 (same.0 e.1)) in
            (e.0, f.below, (difference_exactly e.0).0 f.passes)

        go : (f : Found) → least_below D B ≡ f → (n : ℕ) → n < B → t < apart (exact_quotient a b d n) (device_quotient m c k n) → (i : ℕ) × (answer ≡ refused_at 10 i)
        go (at i) e n lt far = (i, same.1 ((claimed_below (least_below D B) (D B) i).1 e))
        go none e n lt far = no_both (D n) ((difference_exactly n).1 far) ((finds_none D B).0 e n lt)

    -- "The input it names is the least where they are so."
    pub below_exactly : (n : ℕ)
        → (answer ≡ refused_at 10 n)
        ↔ ((n < B) × (t < apart (exact_quotient a b d n) (device_quotient m c k n)) × ((i : ℕ) → i < n → apart (exact_quotient a b d i) (device_quotient m c k i) ≤ t))
    below_exactly n =
        let i = Iff.trans same (Iff.trans (claimed_below (least_below D B) (D B) n) (finds_at D B n)) in (
          λ e. let f = i.0 e in (f.below, (difference_exactly n).0 f.passes, (all_close n).0 f.least),
          λ p. i.1 (record { below = p.0; passes = (difference_exactly n).1 p.1; least = (all_close n).1 p.2 }),
        )

    -- "It turns the claim down and says that no such input exists up to the bound exactly when the two stay within the tolerance at
    -- every input up to the bound, the bound included."
    pub none_exactly : (answer ≡ refused 11) ↔ ((n : ℕ) → n ≤ B → apart (exact_quotient a b d n) (device_quotient m c k n) ≤ t)
    none_exactly =
        let i = claimed_none (least_below D B) (D B) in (
          λ e. let p = i.0 (same.0 e) in λ n le. up_to n le ((all_close B).0 ((finds_none D B).0 p.0)) ((close_exactly B).0 p.1) (dec_lt n B),
          λ p. same.1 (i.1 ((finds_none D B).1 ((all_close B).1 (λ n lt. p n (omega arith))), (close_exactly B).1 (p B (omega arith)))),
        )
      where
        up_to : (n : ℕ) → n ≤ B → ((n : ℕ) → n < B → apart (exact_quotient a b d n) (device_quotient m c k n) ≤ t)
            → apart (exact_quotient a b d B) (device_quotient m c k B) ≤ t → Dec (n < B) → apart (exact_quotient a b d n) (device_quotient m c k n) ≤ t
        up_to n le f here (yes y) = f n y
        up_to n le f here (no x) = let e : n ≡ B = omega arith in rw e here

-- at tolerance 0 an accepted claim says that the quotients are equal below its bound
pub accepted_equal : (a b d m c k B : ℕ) → bound_answer (pos a) (pos b) (pos d) (pos m) (pos c) (pos k) (pos 0) (pos B) ≡ value accepted
    → (n : ℕ) → n < B → exact_quotient a b d n ≡ device_quotient m c k n
accepted_equal a b d m c k B e n lt = go (outside_limits (pos a) (pos b) (pos d) (pos m) (pos c) (pos k) (pos 0) || bound_outside (pos B)) refl
  where
    go : (o : Bool) → (outside_limits (pos a) (pos b) (pos d) (pos m) (pos c) (pos k) (pos 0) || bound_outside (pos B)) ≡ o → exact_quotient a b d n ≡ device_quotient m c k n
    go true h = clash (cc ((claim_nine_exactly (pos a) (pos b) (pos d) (pos m) (pos c) (pos k) (pos 0) (pos B)).1 h))
    go false h = omega (arith, ((accepted_exactly a b d m c k 0 B h).0 e).0 n lt)
