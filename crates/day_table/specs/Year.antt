-- The days of a year that begins on 1 March and ends with a 29 February, by the lengths of its months: document 01, "Calendar rules".
use Rattle.std.specs.Prelude.{ℕ, ◌+◌, ◌-◌, ◌*◌, cond, List, [], ◌∷◌, ltb}

-- a month and its length
pub record Month : Type 0 where
  pub number : ℕ
  pub length : ℕ

abbrev pub month_of : (number length : ℕ) → Month
month_of number length = record { number = number; length = length }

-- the months from March on, with the lengths of a leap year
abbrev pub months : List Month
months =
    month_of 3 31 ∷ month_of 4 30 ∷ month_of 5 31 ∷ month_of 6 30 ∷ month_of 7 31 ∷ month_of 8 31
    ∷ month_of 9 30 ∷ month_of 10 31 ∷ month_of 11 30 ∷ month_of 12 31 ∷ month_of 1 31 ∷ month_of 2 29 ∷ []

-- the month of the day k of some months, and the day of it, both 0 where they have no such day; days are counted from 0, and those of a
-- month from 1
abbrev pub month_in : List Month → ℕ → ℕ
month_in [] k = 0
month_in (m ∷ ms) k = cond (ltb k m.length) m.number (month_in ms (k - m.length))

abbrev pub day_in : List Month → ℕ → ℕ
day_in [] k = 0
day_in (m ∷ ms) k = cond (ltb k m.length) (k + 1) (day_in ms (k - m.length))

unfoldable pub month_at : ℕ → ℕ
month_at k = month_in months k

unfoldable pub day_at : ℕ → ℕ
day_at k = day_in months k

-- both as one number
abbrev pub month_and_day : ℕ → ℕ
month_and_day k = 256 * month_at k + day_at k
