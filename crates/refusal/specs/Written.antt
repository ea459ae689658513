-- What the writers answer, and what the lent buffer holds then: document 01, "Both writers answer the number of bytes written, fill the
-- front of the lent buffer and touch nothing behind their last byte", and "A refused call changes nothing lent".
use Rattle.std.specs.Prelude.{ℕ, cond, List, ◌++◌, ltb, length, drop}
use Rattle.refusal.specs.Outcome.{Outcome, value, refused, and_then, map_value, after_call}

-- the text that is written: 7 for a buffer shorter than it
abbrev pub fitted : Outcome (List ℕ) → (buffer : List ℕ) → Outcome (List ℕ)
fitted written buffer = and_then written (λ text. cond (ltb (length buffer) (length text)) (refused 7) (value text))

-- the refusals of the text, then 7; else the number of bytes written
abbrev pub bytes_written : Outcome (List ℕ) → (buffer : List ℕ) → Outcome ℕ
bytes_written written buffer = map_value length (fitted written buffer)

-- the buffer after the call: the text in front and the rest as it was; all as it was on a refusal
abbrev pub written_buffer : Outcome (List ℕ) → (buffer : List ℕ) → List ℕ
written_buffer written buffer = after_call (fitted written buffer) (λ text. text ++ drop (length text) buffer) buffer
