-- What the theorems speak of: a follower's answers to a list of values, and runs of true positions.
use Rattle.std.specs.Prelude.{◌≡◌, true, false, List, [], ◌∷◌, Option, ℤ, pos, neg_ℤ, ◌-ℤ◌}
use Rattle.std.specs.Int.Signed.{lt_z}
use Rattle.refusal.specs.Outcome.{Outcome}
use Rattle.numbers.specs.Floor.{floor_remainder}
use Rattle.numbers.specs.Range.{outside}
use Rattle.transport.specs.Wraps.{wrap, half, last_position}
use Rattle.transport.specs.Answers.{follow_answer, clock_after}
use Rattle.transport.specs.declared.Position.{Position}

-- the answer to each value, from the clock that the value before it left
unfoldable pub answers_to : Option ℤ → (values : List ℤ) → List (Outcome Position)
answers_to clock [] = []
answers_to clock (heard ∷ values) = follow_answer clock heard ∷ answers_to (clock_after clock heard) values

-- from one true position to the next: it "stays in 0..2^53 and has steps within those limits"
pub record Onward (position next : ℤ) : Type 0 where
  pub stays : outside (pos 0) last_position next ≡ false
  pub low : lt_z (next -ℤ position) (neg_ℤ (pos half)) ≡ false
  pub high : lt_z (next -ℤ position) (pos half) ≡ true

-- "any run of true positions", after the first
pub data RunFrom : (position : ℤ) → List ℤ → Type 0 where
  done : {position : ℤ} → RunFrom position []
  more : {position next : ℤ} {rest : List ℤ} → Onward position next → RunFrom next rest → RunFrom position (next ∷ rest)

-- what the clock shows at a position: the position "modulo 2^33"
abbrev pub shown_at : (position : ℤ) → ℤ
shown_at position = pos (floor_remainder position wrap)
