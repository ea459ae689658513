-- Parts of an instant label as the code writes and reads them, for proofs and private contracts only: nobody has to believe them.
use Rattle.std.specs.Prelude.{◌≡◌, ℕ, ◌+◌, ◌-◌, ◌*◌, ◌^◌, false, cond, List, ℤ, pos}
use Rattle.refusal.specs.Outcome.{Outcome, refused}
use Rattle.numbers.specs.Range.{outside}
use Rattle.calendar.specs.Closed.{before, month_days}
use Rattle.instant.specs.Answers.{join_answer}
use Rattle.instant.specs.declared.Fields.{Fields}
use Rattle.labels.specs.Digits.{number_at, fits}
use Rattle.labels.specs.Words.{pair_of, number_of}
use Rattle.labels.specs.Rfc3339.{decimals, time_shape}

-- a whole number that some digits can be
abbrev pub HasRoom : (count : ℕ) → ℤ → Type 0
HasRoom count z = outside (pos 0) (pos (10 ^ count - 1)) z ≡ false

-- fields of an instant of which all but the year have room in the label
pub record NarrowFields (f : Fields) : Type 0 where
  pub month_within : HasRoom 2 f.month
  pub day_within : HasRoom 2 f.day
  pub hour_within : HasRoom 2 f.hour
  pub minute_within : HasRoom 2 f.minute
  pub second_within : HasRoom 2 f.second
  pub fraction_within : HasRoom decimals f.millisecond

-- the instant of fields that are natural numbers
abbrev pub joined : (year month day hour minute second fraction : ℕ) → Outcome ℤ
joined year month day hour minute second fraction =
    join_answer (pos year) (pos month) (pos day) (pos hour) (pos minute) (pos second) (pos fraction)

-- the instant of a date, and of the values of `HH:MM:SS` and of `.mmm`
abbrev pub joined_values : (year month day clock fraction : ℕ) → Outcome ℤ
joined_values year month day clock fraction = joined year month day (pair_of clock 0) (pair_of clock 3) (pair_of clock 6) (number_of fraction 4)

-- the instant of a date and of a label's rest; 8 for a rest of another shape
abbrev pub read_time : (year month day : ℕ) (rest : List ℕ) → Outcome ℤ
read_time year month day rest =
    cond (fits (time_shape decimals) rest)
    (joined year month day (number_at 1 2 rest) (number_at 4 2 rest) (number_at 7 2 rest) (number_at 10 decimals rest)) (refused 8)

-- what the reader's table has for a month of a year with so many leap days: its length, and 32 times the days of the year before it,
-- one more of these in a common year
abbrev pub month_entry : (leap month : ℕ) → ℕ
month_entry leap month = 32 * (before leap month + 1 - leap) + month_days leap month
