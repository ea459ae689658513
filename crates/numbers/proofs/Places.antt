-- The first place of a list whose number lies outside a range, or not outside.
use Prim.Native.Nat.{ℕ, zero, suc, ◌+◌, ◌≤◌, ◌<◌}
use mathlib.Core.Path.{◌≡◌, refl, subst}
use mathlib.Core.Bool.{Bool, true, false, cond, not, beq}
use mathlib.Core.List.{List, [], ◌∷◌}
use Rattle.std.proofs.Common.{Some, None, ltb}
use borrow.Author.Tests.{ltb-false}
use native.Mathlib.Omega.{arith}
use lib.IntN.{ℤ, pos}
use lib.ListN.{length, get_or}
use Rattle.numbers.specs.Range.{outside, first_place, place_found}
use Rattle.std.specs.List.{position_or_len}
use Rattle.numbers.proofs.Bools.{beq_true, beq_false}

-- what there is to say of it
pub record FirstPlace (first last : ℤ) (t : Bool) (list : List ℤ) (place : ℕ) : Type 0 where
  pub within : place ≤ length list
  pub before : (k : ℕ) → k < place → outside first last (get_or list k (pos 0)) ≡ not t
  pub there : place < length list → outside first last (get_or list place (pos 0)) ≡ t

module _ (first last : ℤ) (t : Bool) where
  module _ (z : ℤ) (zs : List ℤ) where
    here : beq (outside first last z) t ≡ true → FirstPlace first last t (z ∷ zs) 0
    here e = record { within = omega arith; before = λ k l. absurd (omega arith); there = λ l. beq_true (outside first last z) t e }

    later : {place : ℕ} → beq (outside first last z) t ≡ false → FirstPlace first last t zs place → FirstPlace first last t (z ∷ zs) (suc place)
    later {place} e f = record { within = omega (arith, f.within); before = earlier; there = λ l. f.there (omega arith) }
      where
        earlier : (k : ℕ) → k < suc place → outside first last (get_or (z ∷ zs) k (pos 0)) ≡ not t
        earlier zero l = beq_false (outside first last z) t e
        earlier (suc k) l = f.before k (omega arith)

  pub first_place_is : (list : List ℤ) → FirstPlace first last t list (first_place first last t list)
  unfolding first_place
  first_place_is [] = record { within = omega arith; before = λ k l. absurd (omega arith); there = λ l. absurd (omega arith) }
  first_place_is (z ∷ zs) = go (beq (outside first last z) t) refl (first_place_is zs)
    where
      go : (s : Bool) → beq (outside first last z) t ≡ s → FirstPlace first last t zs (first_place first last t zs) →
          FirstPlace first last t (z ∷ zs) (cond s 0 (suc (first_place first last t zs)))
      go true e f = here z zs e
      go false e f = later z zs e f

  -- the place that was found, and where none was
  pub some_found : (list : List ℤ) {place : ℕ} → Some place ≡ place_found first last t list → FirstPlace first last t list place
  some_found list {place} e = go (ltb (first_place first last t list) (length list)) e (first_place_is list)
    where
      go : (s : Bool) {n : ℕ} → Some place ≡ cond s (Some n) None → FirstPlace first last t list n → FirstPlace first last t list place
      go true {n} e f = let same : n ≡ place = cc in subst (FirstPlace first last t list) same f
      go false e f = absurd (cc)

  pub none_found : (list : List ℤ) → None ≡ place_found first last t list → FirstPlace first last t list (length list)
  none_found list e = go (ltb (first_place first last t list) (length list)) refl e (first_place_is list)
    where
      go : (s : Bool) {n : ℕ} → ltb n (length list) ≡ s → None ≡ cond s (Some n) None → FirstPlace first last t list n →
          FirstPlace first last t list (length list)
      go true h e f = absurd (cc)
      go false {n} h e f = let same : n ≡ length list = omega (arith, ltb-false n (length list) h, f.within) in
          subst (FirstPlace first last t list) same f

-- the place that `position` looks for
pub position_is : (first last : ℤ) (t : Bool) (list : List ℤ) →
    position_or_len (λ z. beq (outside first last z) t) list ≡ first_place first last t list
unfolding first_place
position_is first last t [] = refl
position_is first last t (z ∷ zs) = go (beq (outside first last z) t) (position_is first last t zs)
  where
    go : (s : Bool) {a b : ℕ} → a ≡ b → cond (not s) (1 + a) 0 ≡ cond s 0 (suc b)
    go true e = refl
    go false e = omega arith
