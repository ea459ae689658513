-- Position labels: document 01, "Position label". The form is that of a WebVTT timestamp (W3C, WebVTT).
use Rattle.std.specs.Prelude.{ℕ, ◌/◌, ◌%◌, cond, List, ◌∷◌, ◌++◌, ℤ, pos, nat_lt, unsigned_abs}
use Rattle.refusal.specs.Outcome.{Outcome, value, refused}
use Rattle.numbers.specs.Range.{outside}
use Rattle.text.specs.Decimal.{digits}
use Rattle.labels.specs.Clock.{colon, clock_text}

-- positions are 0 to 359999999999 milliseconds
abbrev pub last_position : ℤ
last_position = pos 359999999999

-- the digits of the hours: at least two, and no other leading zero; the hours of a position are below 100000
abbrev pub hour_digits : (hours : ℕ) → ℕ
hour_digits hours = cond (nat_lt hours 100) 2 (cond (nat_lt hours 1000) 3 (cond (nat_lt hours 10000) 4 5))

-- milliseconds to the hour, the minute and the second
abbrev pub per_hour : ℕ
per_hour = 3600000

abbrev pub per_minute : ℕ
per_minute = 60000

abbrev pub per_second : ℕ
per_second = 1000

-- `MM:SS.mmm` of a position of n milliseconds
abbrev pub clock_of : (n : ℕ) → List ℕ
clock_of n = clock_text 3 (n % per_hour / per_minute) (n % per_minute / per_second) (n % per_second)

-- the label of a position of n milliseconds: hours, `:MM:SS.mmm`
abbrev pub position_text : (n : ℕ) → List ℕ
position_text n = digits (n / per_hour) (hour_digits (n / per_hour)) ++ colon ∷ clock_of n

-- 6 for a position outside its range, else its label
unfoldable pub position_label : (position : ℤ) → Outcome (List ℕ)
position_label position = cond (outside (pos 0) last_position position) (refused 6) (value (position_text (unsigned_abs position)))
