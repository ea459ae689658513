-- A shape of eight bytes or of four as a number, and its rooms.
use Rattle.std.proofs.Common.{◌≡◌, ℕ, suc, ◌<◌, List, [], ◌∷◌, length, get_or, refl, ap₂, arith}
use Rattle.std.specs.Int.{w32, w64, from_le_bytes}
use Rattle.text.specs.Words.{word}
use Rattle.labels.specs.Words.{room_one, rooms}

pub four_bytes : (l : List ℕ) {n : ℕ} → length l ≡ 4 → n ≡ from_le_bytes w32 l → n ≡ word l
four_bytes [] h e = absurd (omega arith)
four_bytes (a ∷ []) h e = absurd (omega arith)
four_bytes (a ∷ b ∷ []) h e = absurd (omega arith)
four_bytes (a ∷ b ∷ c ∷ []) h e = absurd (omega arith)
four_bytes (a ∷ b ∷ c ∷ d ∷ []) h e = omega arith
four_bytes (a ∷ b ∷ c ∷ d ∷ f ∷ l) h e = absurd (omega arith)

pub eight_bytes : (l : List ℕ) {n : ℕ} → length l ≡ 8 → n ≡ from_le_bytes w64 l → n ≡ word l
eight_bytes [] h e = absurd (omega arith)
eight_bytes (a ∷ []) h e = absurd (omega arith)
eight_bytes (a ∷ b ∷ []) h e = absurd (omega arith)
eight_bytes (a ∷ b ∷ c ∷ []) h e = absurd (omega arith)
eight_bytes (a ∷ b ∷ c ∷ d ∷ []) h e = absurd (omega arith)
eight_bytes (a ∷ b ∷ c ∷ d ∷ f ∷ []) h e = absurd (omega arith)
eight_bytes (a ∷ b ∷ c ∷ d ∷ f ∷ g ∷ []) h e = absurd (omega arith)
eight_bytes (a ∷ b ∷ c ∷ d ∷ f ∷ g ∷ i ∷ []) h e = absurd (omega arith)
eight_bytes (a ∷ b ∷ c ∷ d ∷ f ∷ g ∷ i ∷ j ∷ []) h e = omega arith
eight_bytes (a ∷ b ∷ c ∷ d ∷ f ∷ g ∷ i ∷ j ∷ k ∷ l) h e = absurd (omega arith)

-- a list that has the room of each byte of a shape
pub rooms_are :
    (shape l : List ℕ) → length l ≡ length shape → ((i : ℕ) → i < length shape → get_or l i 0 ≡ room_one (get_or shape i 0)) → l ≡ rooms shape
rooms_are [] [] e h = refl
rooms_are [] (x ∷ l) e h = absurd (omega arith)
rooms_are (s ∷ shape) [] e h = absurd (omega arith)
rooms_are (s ∷ shape) (x ∷ l) e h = ap₂ ◌∷◌ (h 0 (omega arith)) (rooms_are shape l (omega arith) (λ i j. h (suc i) (omega arith)))
