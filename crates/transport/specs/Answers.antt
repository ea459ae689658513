-- The whole answer of each call, and the clock that goes on from there: document 02, request Five. A clock is the unwrapped position, or
-- `None` where nothing has been heard.
use Rattle.std.specs.Prelude.{ℕ, ◌+◌, Bool, false, cond, ◌||◌, ℤ, pos, Option, None, Some}
use mathlib.Core.List.{List, foldl}
use Rattle.refusal.specs.Outcome.{Outcome, value, refused, refused_at, after_call}
use Rattle.numbers.specs.Range.{outside}
use Rattle.transport.specs.Wraps.{last_value, last_position, reached, position_at}
use Rattle.transport.specs.declared.Position.{Position}
use Rattle.transport.specs.declared.Batch.{Batch}

-- a position handed in that is outside 0..2^53
abbrev pub bad_clock : Option ℤ → Bool
bad_clock None = false
bad_clock (Some position) = outside (pos 0) last_position position

-- 14 "exactly if a value is below 0 or is 2^33 or more, or the position handed in or reached is outside 0..2^53"
abbrev pub not_followed : Option ℤ → (heard : ℤ) → Bool
not_followed clock heard = outside (pos 0) last_value heard || (bad_clock clock || outside (pos 0) last_position (reached clock heard))

unfoldable pub follow_answer : Option ℤ → (heard : ℤ) → Outcome Position
follow_answer clock heard = cond (not_followed clock heard) (refused 14) (value (position_at (reached clock heard)))

-- the clock after a value: at the position, or "state kept"
unfoldable pub clock_after : Option ℤ → (heard : ℤ) → Option ℤ
clock_after clock heard = after_call (follow_answer clock heard) (λ p. Some p.ticks) clock

-- how many are passed over of one value: itself, where it is refused
abbrev pub if_refused : Outcome Position → ℕ
if_refused (value p) = 0
if_refused (refused number) = 1
if_refused (refused_at number place) = 1

-- a batch so far, and the next value
abbrev pub so_far : Option ℤ → (skipped : ℕ) → Batch
so_far clock skipped = record { clock = clock; skipped = skipped }

abbrev pub one_more : Batch → (heard : ℤ) → Batch
one_more batch heard = so_far (clock_after batch.clock heard) (batch.skipped + if_refused (follow_answer batch.clock heard))

-- the values "in order", each by the single call
unfoldable pub follow_all_answer : Option ℤ → (values : List ℤ) → Batch
follow_all_answer clock values = foldl one_more (so_far clock 0) values
