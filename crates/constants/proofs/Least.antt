-- What `least_below` finds.
use Prim.Native.Nat.{ℕ, zero, suc, ◌≤◌, ◌<◌}
use mathlib.Core.Path.{◌≡◌, refl, ap, ◌∙◌, subst}
use mathlib.Core.Bool.{Bool, true, false, cond}
use mathlib.Core.Logic.{◌↔◌}
use native.Mathlib.Decide.{dec_lt}
use native.Mathlib.Omega.{arith}
use Rattle.numbers.proofs.Bools.{no_both}
use Rattle.constants.specs.Least.{Found, at, none, or_else, least_below, NoneBelow, FirstAt}

module _ (test : ℕ → Bool) where
  -- what the search below l is to find
  abbrev pub Right : (l : ℕ) (f : Found) → Type 0
  Right l (at n) = FirstAt test l n
  Right l none = NoneBelow test l

  -- there is one right answer
  both : {A : Type 0} (n : ℕ) → test n ≡ true → test n ≡ false → A
  both n p q = no_both (test n) p q

  pub one_right : (l : ℕ) (f g : Found) → Right l f → Right l g → f ≡ g
  one_right l none none p r = refl
  one_right l none (at n) p r = both n r.passes (p n r.below)
  one_right l (at n) none p r = both n p.passes (r n p.below)
  one_right l (at n) (at m) p r = go (dec_lt n m) (dec_lt m n)
    where
      go : Dec (n < m) → Dec (m < n) → at n ≡ at m
      go (yes y) d = both n p.passes (r.least n y)
      go (no x) (yes y) = both m r.passes (p.least m y)
      go (no x) (no y) = ap at (omega arith)

  -- and `least_below` finds it
  pub finds : (l : ℕ) → Right l (least_below test l)
  unfolding least_below
  finds zero = λ n h. absurd (omega arith)
  finds (suc l) = step (least_below test l) (finds l) (test l) refl
    where
      step : (f : Found) → Right l f → (t : Bool) → test l ≡ t → Right (suc l) (or_else f (cond t (at l) none))
      step (at n) r t e = record { below = omega (arith, r.below); passes = r.passes; least = r.least }
      step none r true e = record { below = omega arith; passes = e; least = r }
      step none r false e = λ n h. last n h (dec_lt n l)
        where
          last : (n : ℕ) → n < suc l → Dec (n < l) → test n ≡ false
          last n h (yes y) = r n y
          last n h (no x) = let i : n ≡ l = omega arith in ap test i ∙ e

  pub finds_right : (l : ℕ) (f : Found) → Right l f → least_below test l ≡ f
  finds_right l f r = one_right l (least_below test l) f (finds l) r

  -- so it finds n exactly when n is the first that passes, and nothing exactly when none passes
  pub finds_at : (l n : ℕ) → (least_below test l ≡ at n) ↔ FirstAt test l n
  finds_at l n = (λ e. subst (Right l) e (finds l), finds_right l (at n))

  pub finds_none : (l : ℕ) → (least_below test l ≡ none) ↔ NoneBelow test l
  finds_none l = (λ e. subst (Right l) e (finds l), finds_right l none)

  -- a longer search finds the same
  pub least_stays : (k l n : ℕ) → least_below test k ≡ at n → k ≤ l → least_below test l ≡ at n
  least_stays k l n e le =
      let f = (finds_at k n).0 e in
      (finds_at l n).1 (record { below = omega (arith, f.below); passes = f.passes; least = f.least })
