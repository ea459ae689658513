-- Ranges of whole numbers, both ends included.
use Rattle.std.specs.Prelude.{ℕ, suc, ◌≤◌, ◌≡◌, Bool, false, cond, ◌||◌, Option, Some, None, List, [], ◌∷◌, eqb, ltb, length, ℤ, pos, negsuc, nat_abs, ◌-ℤ◌}
use Rattle.std.specs.Bool.{beq}
use Rattle.std.specs.Int.Signed.{lt_z}

-- z lies outside first..last
abbrev pub outside : (first last : ℤ) → ℤ → Bool
outside first last z = lt_z z first || lt_z last z

-- how far z lies from first, where z is not below it
abbrev pub since : (first : ℤ) → ℤ → ℕ
since first z = nat_abs (z -ℤ first)

-- whether two whole numbers are equal
abbrev pub eq_z : ℤ → ℤ → Bool
eq_z (pos a) (pos b) = eqb a b
eq_z (pos a) (negsuc b) = false
eq_z (negsuc a) (pos b) = false
eq_z (negsuc a) (negsuc b) = eqb a b

-- the first place of a list whose number lies outside first..last, or not outside, as t says; the length where there is none
unfoldable pub first_place : (first last : ℤ) (t : Bool) → List ℤ → ℕ
first_place first last t [] = 0
first_place first last t (z ∷ zs) = cond (beq (outside first last z) t) 0 (suc (first_place first last t zs))

-- the same place, where there is one
abbrev pub place_found : (first last : ℤ) (t : Bool) → List ℤ → Option ℕ
place_found first last t list = let place = first_place first last t list in cond (ltb place (length list)) (Some place) None

-- a natural number in first..last
pub record Within (first last : ℕ) (z : ℤ) : Type 0 where
  pub is : z ≡ pos (nat_abs z)
  pub low : first ≤ nat_abs z
  pub high : nat_abs z ≤ last
