-- The whole answer of each call, over all whole numbers and lists: the refusals by their numbers, in the order of document 01 and, of
-- the index, of document 02, request Six; then the value.
use Rattle.std.specs.Prelude.{ℕ, suc, ◌-◌, Bool, cond, not, ◌||◌, List, [], ◌∷◌, map, eqb, ltb, ℤ, pos, length}
use Rattle.std.specs.Int.Signed.{lt_z}
use Rattle.refusal.specs.Outcome.{Outcome, value, refused, refused_at, after_call}
use Rattle.numbers.specs.Range.{outside}
use Rattle.calendar.specs.Answers.{of_date}
use Rattle.instant.specs.Units.{per_second, first_instant, last_instant}
use Rattle.instant.specs.Instant.{day_of, fields_of, time_of_fields, instant_at}
use Rattle.instant.specs.declared.Fields.{Fields}

-- an instant outside the range
abbrev pub bad_instant : (instant : ℤ) → Bool
bad_instant instant = outside first_instant last_instant instant

-- 4 for an instant outside the range
unfoldable pub day_answer : (instant : ℤ) → Outcome ℤ
day_answer instant = cond (bad_instant instant) (refused 4) (value (day_of instant))

unfoldable pub split_answer : (instant : ℤ) → Outcome Fields
split_answer instant = cond (bad_instant instant) (refused 4) (value (fields_of instant))

-- an hour outside 0..23, a minute or second outside 0..59, or a millisecond outside 0..999
abbrev pub bad_time : (hour minute second millisecond : ℤ) → Bool
bad_time hour minute second millisecond =
    outside (pos 0) (pos 23) hour
    || (outside (pos 0) (pos 59) minute || (outside (pos 0) (pos 59) second || outside (pos 0) (pos (per_second - 1)) millisecond))

-- the refusals of the date, 1, 2, 3, then 5 for the time
unfoldable pub join_answer : (year month day hour minute second millisecond : ℤ) → Outcome ℤ
join_answer year month day hour minute second millisecond =
    of_date year month day
    (λ d. cond (bad_time hour minute second millisecond) (refused 5) (value (instant_at d (time_of_fields hour minute second millisecond))))

-- the place, from 0, of the first instant outside the range; the length where there is none
unfoldable pub first_bad : (instants : List ℤ) → ℕ
first_bad [] = 0
first_bad (instant ∷ instants) = cond (bad_instant instant) 0 (suc (first_bad instants))

-- the place, from 0, of the first instant "smaller than the one before it" (document 02, request Six); the length where there is none
unfoldable pub first_fall : (instants : List ℤ) → ℕ
first_fall [] = 0
first_fall (instant ∷ []) = 1
first_fall (instant ∷ (next ∷ instants)) = cond (lt_z next instant) 1 (suc (first_fall (next ∷ instants)))

-- 12 for lists of unequal length, then 4 with the place of the first instant outside the range, then 15 with the place of the first
-- instant smaller than the one before it; else how many days are written
unfoldable pub index_days_answer : (instants days : List ℤ) → Outcome ℕ
index_days_answer instants days =
    cond (not (eqb (length instants) (length days))) (refused 12)
    (cond (ltb (first_bad instants) (length instants)) (refused_at 4 (first_bad instants))
    (cond (ltb (first_fall instants) (length instants)) (refused_at 15 (first_fall instants)) (value (length instants))))

-- what the second list holds after the call: the day of each instant, in order
unfoldable pub index_days : (instants days : List ℤ) → List ℤ
index_days instants days = after_call (index_days_answer instants days) (λ count. map day_of instants) days
