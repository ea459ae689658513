-- The first bad instant of a list, and what the tests of an index decide.
use Prim.Native.Nat.{ℕ, zero, suc, ◌≤◌, ◌<◌}
use mathlib.Core.Path.{◌≡◌, refl, ap, ap₂}
use mathlib.Core.Bool.{Bool, true, false, cond, beq}
use mathlib.Core.List.{List, [], ◌∷◌, map}
use native.Mathlib.Omega.{arith}
use lib.IntN.{ℤ, pos}
use lib.ListN.{length, get_or}
use borrow.Author.Tests.{eq-eqb, ne_eqb, lt-ltb, le-ltb}
use Rattle.refusal.specs.Outcome.{Outcome, value, refused, refused_at, after_call}
use Rattle.numbers.specs.Range.{first_place}
use Rattle.instant.specs.Units.{first_instant, last_instant}
use Rattle.instant.specs.Instant.{day_of}
use Rattle.instant.specs.Answers.{bad_instant, first_bad, first_fall, index_days_answer, index_days}
use Rattle.instant.specs.Order.{FirstBadAt}

-- the place is at most the length, and where it is the length no instant is bad
pub bad_le : (s : List ℤ) → first_bad s ≤ length s
unfolding first_bad
bad_le [] = omega arith
bad_le (instant ∷ s) = go (bad_instant instant) (bad_le s)
  where
    go : (t : Bool) → first_bad s ≤ length s → cond t 0 (suc (first_bad s)) ≤ suc (length s)
    go true h = omega arith
    go false h = omega arith

pub none_here : (t : Bool) (m n : ℕ) → cond t 0 (suc m) ≡ suc n → (t ≡ false) × (m ≡ n)
none_here true m n e = absurd (omega arith)
none_here false m n e = (refl, omega arith)

pub all_good : (s : List ℤ) → first_bad s ≡ length s → (k : ℕ) → k < length s → bad_instant (get_or s k (pos 0)) ≡ false
unfolding first_bad
all_good [] e k l = absurd (omega arith)
all_good (instant ∷ s) e zero l = (none_here (bad_instant instant) (first_bad s) (length s) e).0
all_good (instant ∷ s) e (suc k) l = all_good s (none_here (bad_instant instant) (first_bad s) (length s) e).1 k (omega arith)

-- the place is the least whose instant is bad
pub bad_first : (s : List ℤ) → first_bad s < length s → FirstBadAt s (first_bad s)
unfolding first_bad
bad_first [] l = absurd (omega arith)
bad_first (instant ∷ s) l = go (bad_instant instant) refl l (bad_first s)
  where
    go :
        (t : Bool) → bad_instant instant ≡ t → cond t 0 (suc (first_bad s)) < suc (length s) →
        (first_bad s < length s → FirstBadAt s (first_bad s)) → FirstBadAt (instant ∷ s) (cond t 0 (suc (first_bad s)))
    go true h l f = record { in_list = omega arith; bad = h; first = λ k m. absurd (omega arith) }
    go false h l f = let b = f (omega arith) in record { in_list = l; bad = b.bad; first = earlier b }
      where
        earlier : FirstBadAt s (first_bad s) → (k : ℕ) → k < suc (first_bad s) → bad_instant (get_or (instant ∷ s) k (pos 0)) ≡ false
        earlier b zero m = h
        earlier b (suc k) m = b.first k (omega arith)

pub bad_exactly : (s : List ℤ) (p : ℕ) → FirstBadAt s p → first_bad s ≡ p
unfolding first_bad
bad_exactly [] p f = let h = f.in_list in absurd (omega arith)
bad_exactly (instant ∷ s) zero f = rw f.bad
bad_exactly (instant ∷ s) (suc p) f =
    let h = f.in_list in
    let rest : FirstBadAt s p = record { in_list = omega arith; bad = f.bad; first = λ k l. f.first (suc k) (omega arith) } in
    rw (f.first 0 (omega arith)) (ap suc (bad_exactly s p rest))

-- the place that the code looks for
pub bad_place : (s : List ℤ) → first_place first_instant last_instant true s ≡ first_bad s
unfolding first_place first_bad
bad_place [] = refl
bad_place (instant ∷ s) = ap₂ (λ t n. cond t 0 (suc n)) (same (bad_instant instant)) (bad_place s)
  where
    same : (t : Bool) → beq t true ≡ t
    same true = refl
    same false = refl

-- what the tests of the index decide
module _ (instants days : List ℤ) where
  pub unequal : (length instants ≡ length days → ⊥) → index_days_answer instants days ≡ refused 12
  unfolding index_days_answer
  unequal h = rw (ne_eqb (length instants) (length days) h)

  module _ (h : length instants ≡ length days) where
    pub bad_found : first_bad instants < length instants → index_days_answer instants days ≡ refused_at 4 (first_bad instants)
    unfolding index_days_answer
    bad_found l = rw (eq-eqb (length instants) (length days) h, lt-ltb (first_bad instants) (length instants) l)

    module _ (good : length instants ≤ first_bad instants) where
      pub fall_found : first_fall instants < length instants → index_days_answer instants days ≡ refused_at 15 (first_fall instants)
      unfolding index_days_answer
      fall_found l =
          rw (eq-eqb (length instants) (length days) h, le-ltb (first_bad instants) (length instants) good, lt-ltb (first_fall instants) (length instants) l)

      pub none_found : length instants ≤ first_fall instants → index_days_answer instants days ≡ value (length instants)
      unfolding index_days_answer
      none_found l =
          rw (eq-eqb (length instants) (length days) h, le-ltb (first_bad instants) (length instants) good, le-ltb (first_fall instants) (length instants) l)

  pub held : (o : Outcome ℕ) → index_days_answer instants days ≡ o → index_days instants days ≡ after_call o (λ count. map day_of instants) days
  unfolding index_days
  held o e = ap (λ o. after_call o (λ count. map day_of instants) days) e
