-- What the theorems of the index speak of (document 02, request Six): instants in the range, and lists that fall or never do.
use Rattle.std.specs.Prelude.{ℕ, ◌-◌, ◌≤◌, ◌<◌, ◌≡◌, true, false, List, ℤ, pos, length, get_or}
use Rattle.std.specs.Int.Signed.{lt_z}
use Rattle.instant.specs.Answers.{bad_instant}

-- every instant lies in the range
abbrev pub AllInRange : (instants : List ℤ) → Type 0
AllInRange instants = (k : ℕ) → k < length instants → bad_instant (get_or instants k (pos 0)) ≡ false

-- the least place, from 0, whose instant lies outside the range
pub record FirstBadAt (instants : List ℤ) (place : ℕ) : Type 0 where
  pub in_list : place < length instants
  pub bad : bad_instant (get_or instants place (pos 0)) ≡ true
  pub first : (earlier : ℕ) → earlier < place → bad_instant (get_or instants earlier (pos 0)) ≡ false

-- "smaller than the one before it", at a place counted from 0
pub record FallsAt (numbers : List ℤ) (place : ℕ) : Type 0 where
  pub has_one_before : 0 < place
  pub in_list : place < length numbers
  pub smaller : lt_z (get_or numbers place (pos 0)) (get_or numbers (place - 1) (pos 0)) ≡ true

-- the least such place
pub record FirstFallAt (numbers : List ℤ) (place : ℕ) : Type 0 where
  pub falls : FallsAt numbers place
  pub first : (earlier : ℕ) → earlier < place → FallsAt numbers earlier → ⊥

-- no number is smaller than one at an earlier place
abbrev pub NeverFalls : (numbers : List ℤ) → Type 0
NeverFalls numbers =
    (i j : ℕ) → i ≤ j → j < length numbers → lt_z (get_or numbers j (pos 0)) (get_or numbers i (pos 0)) ≡ false
