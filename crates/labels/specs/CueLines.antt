-- Cue timing lines: document 02, request One, "a timestamp, one or more spaces or tabs, `-->`, the same again, a timestamp".
use Rattle.std.specs.Prelude.{◌≡◌, ℕ, Bool, true, false, ◌&&◌, ◌||◌, List, [], ◌∷◌, ◌++◌, ◌==◌}
use Rattle.labels.specs.Timestamps.{is_timestamp}

-- a space or a tab
abbrev pub is_blank : (byte : ℕ) → Bool
is_blank byte = byte == 32 || byte == 9

-- spaces and tabs, and one or more of them
abbrev pub all_blank : (text : List ℕ) → Bool
all_blank [] = true
all_blank (byte ∷ bytes) = is_blank byte && all_blank bytes

abbrev pub are_blanks : (text : List ℕ) → Bool
are_blanks [] = false
are_blanks (byte ∷ bytes) = is_blank byte && all_blank bytes

-- `-->`
abbrev pub arrow : List ℕ
arrow = 45 ∷ 45 ∷ 62 ∷ []

-- the line is a timestamp, blanks, an arrow, blanks and a timestamp
pub record CueLine (line first second : List ℕ) : Type 0 where
  pub before : List ℕ
  pub behind : List ℕ
  pub line_is : line ≡ first ++ (before ++ (arrow ++ (behind ++ second)))
  pub first_is : is_timestamp first ≡ true
  pub blanks_before : are_blanks before ≡ true
  pub blanks_behind : are_blanks behind ≡ true
  pub second_is : is_timestamp second ≡ true

-- of which two timestamps a line is a cue line, or that it is of none
pub data Timing (line : List ℕ) : Type 0 where
  between : (first second : List ℕ) → CueLine line first second → Timing line
  of_none : ((first second : List ℕ) → CueLine line first second → ⊥) → Timing line
