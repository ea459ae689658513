-- The units of an instant: document 01, "Instants and the two labels"; and its range: document 02, request Eight.
use Rattle.std.specs.Prelude.{ℕ, ◌*◌, ◌-◌, ◌≡◌, refl, ℤ, pos, negsuc, ◌+ℤ◌, ◌*ℤ◌}
use Rattle.calendar.specs.Range.{first_count, last_count}

-- an instant counts milliseconds
abbrev pub per_second : ℕ
per_second = 1000

abbrev pub per_minute : ℕ
per_minute = 60 * per_second

abbrev pub per_hour : ℕ
per_hour = 60 * per_minute

abbrev pub per_day : ℕ
per_day = 24 * per_hour

-- the range: from the first to the last instant of the calendar's days
abbrev pub first_instant : ℤ
first_instant = first_count *ℤ pos per_day

abbrev pub last_instant : ℤ
last_instant = last_count *ℤ pos per_day +ℤ pos (per_day - 1)

-- these are the numbers of request Eight's days; `negsuc n` is -(n + 1)
pub first_is : first_instant ≡ negsuc 1071989683199999
first_is = refl

pub last_is : last_instant ≡ pos 947655244799999
last_is = refl
