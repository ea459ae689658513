-- The label of a position below 100 hours in two parts, for proofs and private contracts only: nobody has to believe
-- them.
use Rattle.std.specs.Prelude.{ℕ, ◌+◌, ◌*◌, ◌/◌, ◌%◌, List, [], ◌∷◌, ◌++◌}
use Rattle.text.specs.Decimal.{digits}
use Rattle.labels.specs.Clock.{colon, point}
use Rattle.labels.specs.Webvtt.{per_hour}

-- a hundred hours, from which on the hours have more than two digits
abbrev pub hundred_hours : ℕ
hundred_hours = 100 * per_hour

-- `HH:MM:SS` and `.mmm`, of some minutes and of the milliseconds beyond them
abbrev pub seconds_text : (minutes rest : ℕ) → List ℕ
seconds_text minutes rest = digits (minutes / 60) 2 ++ colon ∷ digits (minutes % 60) 2 ++ colon ∷ digits (rest / 1000) 2

abbrev pub decimals_text : (rest : ℕ) → List ℕ
decimals_text rest = point ∷ digits (rest % 1000 / 10) 2 ++ (48 + rest % 1000 % 10) ∷ []

-- `HH:MM:SS.mmm`
abbrev pub short_text : (minutes rest : ℕ) → List ℕ
short_text minutes rest = seconds_text minutes rest ++ decimals_text rest
