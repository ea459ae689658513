-- What a cue timing line answers: document 02, request One, "13 for a wrong shape, 6 for a position above the limit, and on a cue line 13
-- again for an end not later than its start".
use Rattle.std.specs.Prelude.{◌≡◌, ℕ, true, false, cond, ◌⊎◌, List, ℤ}
use Rattle.std.specs.Int.Signed.{lt_z}
use Rattle.refusal.specs.Outcome.{Outcome, value, refused, and_then}
use Rattle.labels.specs.Timestamps.{position_answer}
use Rattle.labels.specs.CueLines.{CueLine, Timing, between, of_none}
use Rattle.labels.specs.Timings.{timing_of}
use Rattle.labels.specs.declared.webvtt.Cue.{Cue}

-- the cue of the answers to two timestamps: the refusals of either, then 13 for an end not later than the start
abbrev pub cue_between : (first second : Outcome ℤ) → Outcome Cue
cue_between first second =
    and_then first (λ start. and_then second (λ end. cond (lt_z start end) (value (record { start = start; end = end })) (refused 13)))

-- the cue of two timestamps: 6 for either position, then 13
unfoldable pub cue_of : (first second : List ℕ) → Outcome Cue
cue_of first second = cue_between (position_answer first) (position_answer second)

abbrev pub timing_answer : {line : List ℕ} → Timing line → Outcome Cue
timing_answer (between first second parts) = cue_of first second
timing_answer (of_none never) = refused 13

-- 13 for a line that is no cue line, then what its two timestamps make; of `timing_of` only its type has to be believed
unfoldable pub cue_line_answer : (line : List ℕ) → Outcome Cue
cue_line_answer line = timing_answer (timing_of line)

-- ---- the three answers, of which it is shown that each is given exactly then (labels/proofs/CueLaws.antt)

-- a cue line with both positions in the range, and the end later than the start
pub record InOrder (line : List ℕ) (cue : Cue) : Type 0 where
  pub first : List ℕ
  pub second : List ℕ
  pub parts : CueLine line first second
  pub start_read : position_answer first ≡ value cue.start
  pub end_read : position_answer second ≡ value cue.end
  pub later : lt_z cue.start cue.end ≡ true

-- a cue line one of whose positions is above the limit
pub record AboveLimit (line : List ℕ) : Type 0 where
  pub first : List ℕ
  pub second : List ℕ
  pub parts : CueLine line first second
  pub above : (position_answer first ≡ refused 6) ⊎ (position_answer second ≡ refused 6)

-- a cue line with both positions in the range, and an end not later than the start
pub record NotLater (line : List ℕ) : Type 0 where
  pub first : List ℕ
  pub second : List ℕ
  pub parts : CueLine line first second
  pub start : ℤ
  pub end : ℤ
  pub start_read : position_answer first ≡ value start
  pub end_read : position_answer second ≡ value end
  pub not_later : lt_z start end ≡ false
