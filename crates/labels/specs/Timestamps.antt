-- Timestamps read back: document 02, request One, "hours of two or more digits, or no hours at all, in which case minutes lead; minutes
-- and seconds 00 to 59, three decimals". The form is that of a WebVTT timestamp (W3C, WebVTT).
use Rattle.std.specs.Prelude.{ℕ, ◌+◌, ◌-◌, ◌*◌, Bool, cond, not, ◌&&◌, ◌||◌, List, [], ◌∷◌, ◌++◌, length, take, drop, ℤ, pos, ◌==◌, nat_le, nat_lt, slice_index}
use Rattle.refusal.specs.Outcome.{Outcome, value, refused}
use Rattle.numbers.specs.Range.{outside}
use Rattle.text.specs.Decimal.{digits, number}
use Rattle.labels.specs.Digits.{number_at, fits}
use Rattle.labels.specs.Clock.{colon, clock_text}
use Rattle.labels.specs.Webvtt.{last_position, per_hour, per_minute, per_second}

-- the last nine bytes of a text, and what stands in front of them
abbrev pub last_nine : (text : List ℕ) → List ℕ
last_nine text = drop (length text - 9) text

abbrev pub in_front : (text : List ℕ) → List ℕ
in_front text = take (length text - 9) text

-- `MM:SS.mmm`, with minutes and seconds up to 59
abbrev pub is_clock : (text : List ℕ) → Bool
is_clock text = fits (clock_text 3 0 0 0) text && (nat_lt (number_at 0 2 text) 60 && nat_lt (number_at 3 2 text) 60)

-- some hours and a colon: the digits, and whether there are two or more of them and nothing else in front of the colon
abbrev pub hours_text : (front : List ℕ) → List ℕ
hours_text front = take (length front - 1) front

abbrev pub are_hours : (front : List ℕ) → Bool
are_hours front = nat_le 2 (length front - 1) && fits (digits 0 (length front - 1) ++ colon ∷ []) front

-- a timestamp is its last nine bytes `MM:SS.mmm` and in front of them nothing, or hours and a colon
abbrev pub is_timestamp : (text : List ℕ) → Bool
is_timestamp text = is_clock (last_nine text) && (length (in_front text) == 0 || are_hours (in_front text))

-- the milliseconds of `MM:SS.mmm`, and of a timestamp; hours that are left out are 0
abbrev pub clock_value : (text : List ℕ) → ℕ
clock_value text = number_at 0 2 text * per_minute + number_at 3 2 text * per_second + number_at 6 3 text

abbrev pub hours_value : (front : List ℕ) → ℕ
hours_value front = number (hours_text front)

abbrev pub position_of : (text : List ℕ) → ℕ
position_of text = hours_value (in_front text) * per_hour + clock_value (last_nine text)

-- of a timestamp: it has hours, of two digits, or of more and with no zero in front
abbrev pub has_full_hours : (text : List ℕ) → Bool
has_full_hours text = length text == 12 || (nat_lt 12 (length text) && not (slice_index text 0 == 48))

-- digits without the zeros in front
abbrev pub without_zeros : List ℕ → List ℕ
without_zeros [] = []
without_zeros (byte ∷ bytes) = cond (byte == 48) (without_zeros bytes) (byte ∷ bytes)

-- 13 for a text that is no timestamp, then 6 for a position above the limit; else the position
unfoldable pub position_answer : (text : List ℕ) → Outcome ℤ
position_answer text =
    cond (is_timestamp text) (cond (outside (pos 0) last_position (pos (position_of text))) (refused 6) (value (pos (position_of text)))) (refused 13)
