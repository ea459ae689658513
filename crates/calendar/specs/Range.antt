-- The range of the calendar: document 02, request Eight.
use Rattle.std.specs.Prelude.{ℤ, pos, negsuc}

abbrev pub first_year : ℤ
first_year = negsuc 31999

abbrev pub last_year : ℤ
last_year = pos 31999

-- -12407288, the count of the first day of the first year; `negsuc n` is -(n + 1)
abbrev pub first_count : ℤ
first_count = negsuc 12407287

-- the count of the last day of the last year
abbrev pub last_count : ℤ
last_count = pos 10968231
