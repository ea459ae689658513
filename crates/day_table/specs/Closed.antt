-- Closed forms, for proofs only: source document 000, section 6.
use Rattle.std.specs.Prelude.{ℕ, ◌+◌, ◌-◌, ◌*◌, ◌/◌, ◌%◌, leb}
use mir.Val.{bool_byte}

-- 1 for the days of January and February, the last ones
abbrev pub new_year : ℕ → ℕ
new_year k = bool_byte (leb 306 k)

-- the month of the day k, from 3 for March to 12 for December, then 1 and 2, and the day of the month
abbrev pub closed_month : ℕ → ℕ
closed_month k = (5 * k + 461) / 153 - 12 * new_year k

abbrev pub closed_day : ℕ → ℕ
closed_day k = (5 * k + 461) % 153 / 5 + 1
