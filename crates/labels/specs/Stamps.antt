-- What the code makes of a timestamp, for proofs and private contracts only: nobody has to believe it.
use Rattle.std.specs.Prelude.{ℕ, ◌+◌, ◌*◌, ◌%◌, cond, ◌||◌, List, [], ◌∷◌, pos, nat_lt}
use Rattle.refusal.specs.Outcome.{Outcome, value, refused, and_then}
use Rattle.numbers.specs.Range.{outside}
use Rattle.text.specs.Decimal.{all_digits}
use Rattle.labels.specs.Webvtt.{last_position}
use Rattle.labels.specs.Timestamps.{is_timestamp, position_of}
use Rattle.labels.specs.declared.webvtt.Cue.{Cue}

-- the first position above the limit
abbrev pub above_limit : ℕ
above_limit = 360000000000

-- the position of a timestamp, or the first above the limit for all that are above it; 13 for a text that is no timestamp
abbrev pub limited : (position : ℕ) → ℕ
limited position = cond (outside (pos 0) last_position (pos position)) above_limit position

unfoldable pub stamp_of : (text : List ℕ) → Outcome ℕ
stamp_of text = cond (is_timestamp text) (value (limited (position_of text))) (refused 13)

-- one more digit, unless the number is above 999 already
abbrev pub one_more : (so_far byte : ℕ) → ℕ
one_more so_far byte = cond (nat_lt 999 so_far) so_far (so_far * 10 + byte % 16)

-- the number of a text of digits as far as it takes to be above 999
abbrev pub limited_from : (so_far : ℕ) → (text : List ℕ) → ℕ
limited_from so_far [] = so_far
limited_from so_far (byte ∷ bytes) = limited_from (one_more so_far byte) bytes

-- the hours in front of the last two digits; 13 for a text that is no digits
abbrev pub leading : (text : List ℕ) → Outcome ℕ
leading text = cond (all_digits text) (value (limited_from 0 text)) (refused 13)

-- the cue of the positions of two timestamps: 6 for one above the limit, then 13 for an end not later than its start
abbrev pub cue_of_stamps : (first second : ℕ) → Outcome Cue
cue_of_stamps first second =
    cond (nat_lt 359999999999 first || nat_lt 359999999999 second) (refused 6)
    (cond (nat_lt first second) (value (record { start = pos first; end = pos second })) (refused 13))

-- the cue of what was read of both
abbrev pub cue_of_both : (first second : Outcome ℕ) → Outcome Cue
cue_of_both first second = and_then first (λ start. and_then second (λ end. cue_of_stamps start end))
