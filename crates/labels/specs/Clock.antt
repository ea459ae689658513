-- The clock behind the hours, which both labels have: `MM:SS.` and the decimals of the second.
use Rattle.std.specs.Prelude.{ℕ, List, ◌∷◌, ◌++◌}
use Rattle.text.specs.Decimal.{digits}

-- `:` and `.`
abbrev pub colon : ℕ
colon = 58

abbrev pub point : ℕ
point = 46

abbrev pub clock_text : (decimals minute second fraction : ℕ) → List ℕ
clock_text decimals minute second fraction = digits minute 2 ++ colon ∷ digits second 2 ++ point ∷ digits fraction decimals
