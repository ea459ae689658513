-- The clock of a transport stream, 33 bits wide, and the step from a position to the next value: document 02, request Five.
use Rattle.std.specs.Prelude.{ℕ, ◌-◌, ◌^◌, ◌≡◌, true, false, Option, None, Some, ℤ, pos, neg_ℤ, ◌+ℤ◌, ◌-ℤ◌}
use Rattle.std.specs.Int.Signed.{lt_z}
use Rattle.numbers.specs.Floor.{floor_quotient, floor_remainder}
use Rattle.transport.specs.declared.Position.{Position}

-- the values are 0 to 2^33 - 1, and after the last one comes 0 again
abbrev pub wrap : ℕ
wrap = 2 ^ 33

abbrev pub last_value : ℤ
last_value = pos (wrap - 1)

-- half of a wrap
abbrev pub half : ℕ
half = 2 ^ 32

-- positions are unwrapped and lie in 0..2^53
abbrev pub last_position : ℤ
last_position = pos (2 ^ 53)

-- "−2^32 ≤ s < 2^32", and s "fits the new value modulo 2^33": it leads to a position with the same remainder
pub record Step (position value s : ℤ) : Type 0 where
  pub low : lt_z s (neg_ℤ (pos half)) ≡ false
  pub high : lt_z s (pos half) ≡ true
  pub fits : floor_remainder (position +ℤ s) wrap ≡ floor_remainder value wrap

-- "the one number" of that kind, by how far it lies above -2^32: the theorems `step_exists` and `step_is_one`
abbrev pub lead_to : (position value : ℤ) → ℕ
lead_to position value = floor_remainder (value -ℤ position +ℤ pos half) wrap

abbrev pub step_to : (position value : ℤ) → ℤ
step_to position value = pos (lead_to position value) -ℤ pos half

-- "The first value is taken as it is. After that", the position and its step
abbrev pub reached : Option ℤ → (value : ℤ) → ℤ
reached None value = value
reached (Some position) value = position +ℤ step_to position value

-- "its position in milliseconds, ticks divided by 90, rounded down"
abbrev pub milliseconds_of : (ticks : ℤ) → ℤ
milliseconds_of ticks = floor_quotient ticks 90

abbrev pub position_at : (ticks : ℤ) → Position
position_at ticks = record { ticks = ticks; milliseconds = milliseconds_of ticks }
