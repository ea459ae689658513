-- The two quotients and their difference: document 01, "Constants on trial".
use Rattle.std.specs.Prelude.{ℕ, ◌+◌, ◌-◌, ◌*◌, ◌/◌, ◌^◌, Bool, ltb}

-- "the exact quotient at n is the floor of (a·n + b) / d"
unfoldable pub exact_quotient : (a b d n : ℕ) → ℕ
exact_quotient a b d n = (a * n + b) / d

-- "the device's quotient is (m·n + c) shifted right by k"
unfoldable pub device_quotient : (m c k n : ℕ) → ℕ
device_quotient m c k n = (m * n + c) / 2 ^ k

-- how far apart two numbers are; a difference below zero counts as zero
abbrev pub apart : (x y : ℕ) → ℕ
apart x y = (x - y) + (y - x)

-- "a difference at n means that the two are more than t apart", for any exact quotient and any device
unfoldable pub differs : (t : ℕ) (exact device : ℕ → ℕ) → (n : ℕ) → Bool
differs t exact device n = ltb t (apart (exact n) (device n))
