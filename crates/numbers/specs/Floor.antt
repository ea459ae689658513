-- The floored quotient and remainder of a whole number: document 01, "rounded toward minus infinity, also below zero".
use Rattle.std.specs.Prelude.{ℕ, ◌-◌, ◌/◌, ◌%◌, ℤ, pos, negsuc}

-- `negsuc a` is -(a + 1)
abbrev pub floor_quotient : ℤ → ℕ → ℤ
floor_quotient (pos a) d = pos (a / d)
floor_quotient (negsuc a) d = negsuc (a / d)

abbrev pub floor_remainder : ℤ → ℕ → ℕ
floor_remainder (pos a) d = a % d
floor_remainder (negsuc a) d = d - 1 - a % d
