-- The neighbours in a list, which `windows` gives, and the first of them that fall.
use Prim.Native.Nat.{ℕ, suc, ◌+◌, ◌<◌}
use mathlib.Core.Path.{◌≡◌, refl, ap, ◌∙◌}
use mathlib.Core.Bool.{Bool, true, false, cond, not}
use mathlib.Core.List.{List, [], ◌∷◌}
use native.Mathlib.Omega.{arith}
use native.Mathlib.Decide.{dec_lt}
use borrow.Author.Tests.{lt-ltb, le-ltb}
use lib.IntN.{ℤ, pos}
use lib.ListN.{length, get_or, take, drop}
use lib.Signed.{lt_z}
use Rattle.std.proofs.Common.{Option, Some, None, ltb}
use Rattle.std.specs.List.{position_or_len}
use Rattle.std.specs.Option.{option_map}
use Rattle.std.proofs.lemmas.Iterator.{YieldsList}
use Rattle.std.specs.Iterator.{AlwaysYields}
use Rattle.std.specs.Slice.Iter.{windows_rest, windows_size, windows_steps}
use Rattle.std.specs.declared.slice.Windows.{Windows}
use Rattle.instant.specs.Answers.{first_fall}
use Rattle.instant.specs.Checked.{place_in}

-- each number with the next one
abbrev pub neighbours : List ℤ → List (List ℤ)
neighbours [] = []
neighbours (x ∷ []) = []
neighbours (x ∷ (y ∷ s)) = (x ∷ (y ∷ [])) ∷ neighbours (y ∷ s)

windows_give : (r : List ℤ) (s : Windows ℤ) → windows_size s ≡ 2 → windows_rest s ≡ r →
    AlwaysYields windows_steps (λ w. w.now) s (neighbours r)
windows_give [] s n e = λ x j h. absurd (omega (arith, n, ap length e, h.1.0))
windows_give (x ∷ []) s n e = λ w j h. absurd (omega (arith, n, ap length e, h.1.0))
windows_give (x ∷ (y ∷ r)) s n e = (
  λ j h. absurd (omega (arith, n, ap length e, h.1.0)),
  λ w j h. (h.1.1 ∙ (λ i. take (n i) (e i)), windows_give (y ∷ r) j (h.0 ∙ n) (h.1.2 ∙ ap (drop 1) e)),
)

pub windows_yield : {s : Windows ℤ} (r : List ℤ) → windows_size s ≡ 2 → windows_rest s ≡ r →
    YieldsList windows_steps (λ w. w.now) s (neighbours r)
windows_yield {s} r n e = record { runs = windows_give r s n e }

-- whether the second of two is smaller
abbrev pub fall_in : List ℤ → Bool
fall_in pair = lt_z (get_or pair 1 (pos 0)) (get_or pair 0 (pos 0))

pub first_neighbours : (x : ℤ) (s : List ℤ) → first_fall (x ∷ s) ≡ suc (position_or_len fall_in (neighbours (x ∷ s)))
unfolding first_fall
first_neighbours x [] = refl
first_neighbours x (y ∷ s) = go (lt_z y x) (first_neighbours y s)
  where
    go : (t : Bool) {a : ℕ} {b : ℕ} → a ≡ suc b → cond t 1 (suc a) ≡ suc (cond (not t) (1 + b) 0)
    go true e = refl
    go false e = omega arith

neighbours_long : (x : ℤ) (s : List ℤ) → length (neighbours (x ∷ s)) ≡ length s
neighbours_long x [] = refl
neighbours_long x (y ∷ s) = ap suc (neighbours_long y s)

-- the place that `position` finds
pub place_of_fall :
    (s : List ℤ) (r : Option ℕ) → let place = position_or_len fall_in (neighbours s) in
    r ≡ cond (ltb place (length (neighbours s))) (Some place) None →
    option_map (λ n. n + 1) r ≡ place_in s (first_fall s)
unfolding first_fall
place_of_fall [] r e = rw e refl
place_of_fall (x ∷ s) r e =
    rw (e, first_neighbours x s, neighbours_long x s) (found (position_or_len fall_in (neighbours (x ∷ s))) (length s))
  where
    found : (p n : ℕ) → option_map (λ m. m + 1) (cond (ltb p n) (Some p) None) ≡ cond (ltb (suc p) (suc n)) (Some (suc p)) None
    found p n = go (dec_lt p n)
      where
        go : Dec (p < n) → option_map (λ m. m + 1) (cond (ltb p n) (Some p) None) ≡ cond (ltb (suc p) (suc n)) (Some (suc p)) None
        go (yes l) = rw (lt-ltb p n l, lt-ltb (suc p) (suc n) (omega arith)) (ap Some (omega arith))
        go (no l) = rw (le-ltb p n (omega arith), le-ltb (suc p) (suc n) (omega arith))
