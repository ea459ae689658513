-- A lent buffer after some of its bytes were stored: what the calls of this crate put, and else for proofs and private contracts. What
-- users reach says it by `written_buffer`, so that none of them has to believe it.
use Rattle.std.specs.Prelude.{ℕ, ◌+◌, ◌≡◌, Bool, cond, List, leb, length, take, drop}
use Rattle.std.proofs.lemmas.List.Edits.{sets}

-- a text stored from byte `at` on
unfoldable pub filled : (at : ℕ) → (text buffer : List ℕ) → List ℕ
filled at text buffer = sets buffer at text

-- a text was stored from byte `at` on, and `end` is the place behind it
pub record Stored (at : ℕ) (text before after : List ℕ) (end : ℕ) : Type 0 where
  pub end_is : end ≡ at + length text
  pub is_filled : after ≡ filled at text before

-- a text in front, and from byte `end` on the bytes that were there before
pub record Begins (text : List ℕ) (end : ℕ) (before after : List ℕ) : Type 0 where
  pub front : take (length text) after ≡ text
  pub rest : drop end after ≡ drop end before

-- a text that has room from byte `at` on
abbrev pub has_room : (at : ℕ) (text buffer : List ℕ) → Bool
has_room at text buffer = leb (at + length text) (length buffer)

-- what putting it there answers, and what it leaves
abbrev pub place_behind : (at : ℕ) (text buffer : List ℕ) → ℕ
place_behind at text buffer = cond (has_room at text buffer) (at + length text) at

abbrev pub placed : (at : ℕ) (text buffer : List ℕ) → List ℕ
placed at text buffer = cond (has_room at text buffer) (filled at text buffer) buffer
