-- Falls in a list: the first of them, and lists that have none.
use Prim.Native.Nat.{ℕ, zero, suc, ◌+◌, ◌-◌, ◌≤◌, ◌<◌}
use mathlib.Core.Path.{◌≡◌, refl, sym, ap, ◌∙◌}
use mathlib.Core.Bool.{Bool, true, false, cond}
use mathlib.Core.List.{List, [], ◌∷◌}
use native.Mathlib.Nat.{add-zero, add-suc}
use native.Mathlib.Omega.{arith}
use native.Mathlib.Decide.{dec_lt}
use lib.IntN.{ℤ, pos}
use lib.ListN.{length, get_or}
use lib.Signed.{lt_z}
use Rattle.numbers.proofs.Integers.{not_below_itself, not_below_trans}
use Rattle.instant.specs.Answers.{first_fall}
use Rattle.instant.specs.Order.{FallsAt, FirstFallAt, NeverFalls}

-- ---- the first fall

pub fall_le : (s : List ℤ) → first_fall s ≤ length s
unfolding first_fall
fall_le [] = omega arith
fall_le (x ∷ []) = omega arith
fall_le (x ∷ (y ∷ s)) = go (lt_z y x) (fall_le (y ∷ s))
  where
    go : (t : Bool) → first_fall (y ∷ s) ≤ suc (length s) → cond t 1 (suc (first_fall (y ∷ s))) ≤ suc (suc (length s))
    go true h = omega arith
    go false h = omega arith

-- ---- the first fall is the least place that falls

before_next : (p : ℕ) → suc p - 1 ≡ p
before_next p = omega arith

module _ (x : ℤ) (s : List ℤ) (p : ℕ) where
  one_on : lt_z (get_or (x ∷ s) (suc (suc p)) (pos 0)) (get_or (x ∷ s) (suc (suc p) - 1) (pos 0)) ≡ lt_z (get_or s (suc p) (pos 0)) (get_or s (suc p - 1) (pos 0))
  one_on =
      ap (λ (j : ℕ). lt_z (get_or s (suc p) (pos 0)) (get_or (x ∷ s) j (pos 0))) (before_next (suc p))
      ∙ sym (ap (λ (j : ℕ). lt_z (get_or s (suc p) (pos 0)) (get_or s j (pos 0))) (before_next p))

  earlier_place : FallsAt (x ∷ s) (suc (suc p)) → FallsAt s (suc p)
  earlier_place f = let h = f.in_list in record { has_one_before = omega arith; in_list = omega arith; smaller = sym one_on ∙ f.smaller }

later_place : (x : ℤ) (s : List ℤ) (p : ℕ) → FallsAt s p → FallsAt (x ∷ s) (suc p)
later_place x s zero f = let h = f.has_one_before in absurd (omega arith)
later_place x s (suc p) f = let h = f.in_list in record { has_one_before = omega arith; in_list = omega arith; smaller = one_on x s p ∙ f.smaller }

pub fall_falls : (s : List ℤ) → first_fall s < length s → FallsAt s (first_fall s)
unfolding first_fall
fall_falls [] l = absurd (omega arith)
fall_falls (x ∷ []) l = absurd (omega arith)
fall_falls (x ∷ (y ∷ s)) l = go (lt_z y x) refl l (fall_falls (y ∷ s))
  where
    go :
        (t : Bool) → lt_z y x ≡ t → cond t 1 (suc (first_fall (y ∷ s))) < suc (suc (length s)) →
        (first_fall (y ∷ s) < suc (length s) → FallsAt (y ∷ s) (first_fall (y ∷ s))) → FallsAt (x ∷ (y ∷ s)) (cond t 1 (suc (first_fall (y ∷ s))))
    go true h l f = record { has_one_before = omega arith; in_list = omega arith; smaller = h }
    go false h l f = later_place x (y ∷ s) (first_fall (y ∷ s)) (f (omega arith))

pub fall_least : (s : List ℤ) (p : ℕ) → FallsAt s p → first_fall s ≤ p
unfolding first_fall
fall_least [] p f = let h = f.in_list in absurd (omega arith)
fall_least (x ∷ []) p f = let h = f.in_list in let k = f.has_one_before in absurd (omega arith)
fall_least (x ∷ (y ∷ s)) zero f = let h = f.has_one_before in absurd (omega arith)
fall_least (x ∷ (y ∷ s)) (suc zero) f = rw f.smaller (omega arith)
fall_least (x ∷ (y ∷ s)) (suc (suc p)) f = go (lt_z y x) (fall_least (y ∷ s) (suc p) (earlier_place x (y ∷ s) p f))
  where
    go : (t : Bool) → first_fall (y ∷ s) ≤ suc p → cond t 1 (suc (first_fall (y ∷ s))) ≤ suc (suc p)
    go true h = omega arith
    go false h = omega arith

pub fall_exactly : (s : List ℤ) (p : ℕ) → FirstFallAt s p → first_fall s ≡ p
fall_exactly s p f =
    let h = f.falls.in_list in
    let le = fall_least s p f.falls in
    let here = fall_falls s (omega arith) in
    go le here (dec_lt (first_fall s) p)
  where
    go : first_fall s ≤ p → FallsAt s (first_fall s) → Dec (first_fall s < p) → first_fall s ≡ p
    go le here (yes l) = absurd (f.first (first_fall s) l here)
    go le here (no l) = omega arith

pub fall_first : (s : List ℤ) → first_fall s < length s → FirstFallAt s (first_fall s)
fall_first s l = record { falls = fall_falls s l; first = λ p k f. let h = fall_least s p f in omega arith }

-- ---- a list without a fall

module _ (s : List ℤ) (none : first_fall s ≡ length s) where
  neighbours : (k : ℕ) → suc k < length s → lt_z (get_or s (suc k) (pos 0)) (get_or s k (pos 0)) ≡ false
  neighbours k l = go (lt_z (get_or s (suc k) (pos 0)) (get_or s k (pos 0))) refl
    where
      go : (t : Bool) → lt_z (get_or s (suc k) (pos 0)) (get_or s k (pos 0)) ≡ t → t ≡ false
      go false h = refl
      go true h =
          let f = fall_least s (suc k) (record { has_one_before = omega arith; in_list = l; smaller = ap (λ (j : ℕ). lt_z (get_or s (suc k) (pos 0)) (get_or s j (pos 0))) (before_next k) ∙ h }) in
          absurd (omega arith)

  farther : (i d : ℕ) → i + d < length s → lt_z (get_or s (i + d) (pos 0)) (get_or s i (pos 0)) ≡ false
  farther i zero l = ap (λ (j : ℕ). lt_z (get_or s j (pos 0)) (get_or s i (pos 0))) (add-zero i) ∙ not_below_itself (get_or s i (pos 0))
  farther i (suc d) l =
      ap (λ (j : ℕ). lt_z (get_or s j (pos 0)) (get_or s i (pos 0))) (add-suc i d)
      ∙ not_below_trans (get_or s (suc (i + d)) (pos 0)) (get_or s (i + d) (pos 0)) (get_or s i (pos 0)) (neighbours (i + d) (omega arith))
      (farther i d (omega arith))

  pub never_falls : NeverFalls s
  never_falls i j h l =
      let e : i + (j - i) ≡ j = omega arith in
      ap (λ (k : ℕ). lt_z (get_or s k (pos 0)) (get_or s i (pos 0))) (sym e) ∙ farther i (j - i) (omega arith)
