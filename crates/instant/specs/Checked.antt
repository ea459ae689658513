-- What tested fields of a time of day are, and a tested index, for proofs and private contracts only.
use Rattle.std.specs.Prelude.{ℕ, ltb, length, Option, Some, None, Bool, false, cond, ◌||◌, List, [], ◌∷◌, ◌++◌, ℤ}
use Rattle.std.specs.Int.Signed.{lt_z}
use Rattle.refusal.specs.Outcome.{Outcome, value, refused}
use Rattle.instant.specs.Units.{first_instant, last_instant}
use Rattle.instant.specs.Instant.{time_of_fields}
use Rattle.instant.specs.Answers.{bad_time}

unfoldable pub time_answer : (hour minute second millisecond : ℤ) → Outcome ℤ
time_answer hour minute second millisecond = cond (bad_time hour minute second millisecond) (refused 5) (value (time_of_fields hour minute second millisecond))

-- whether an instant of a list that goes on from `before` is smaller than the one before it
unfoldable pub falls_from : (before : ℤ) → List ℤ → Bool
falls_from before [] = false
falls_from before (instant ∷ instants) = lt_z instant before || falls_from instant instants

-- whether a list has a bad instant or a fall: whether a number is smaller than the one before it, with the first instant of the range
-- in front of the list and the last behind it
unfoldable pub faulty : (instants : List ℤ) → Bool
faulty instants = falls_from first_instant (instants ++ last_instant ∷ [])

-- a place in a list, which has none at its length
abbrev pub place_in : List ℤ → (place : ℕ) → Option ℕ
place_in s place = cond (ltb place (length s)) (Some place) None
