-- The bytes of a number, and parts of a text.
use Rattle.std.specs.Prelude.{ℕ, zero, suc, ◌+◌, ◌*◌, ◌/◌, ◌%◌, ◌^◌, ◌≤◌, List, [], ◌∷◌, ◌++◌, take, drop}

-- bytes as one number, the first byte the lowest
abbrev pub word : List ℕ → ℕ
word [] = 0
word (b ∷ bs) = word bs * 256 + b

-- byte k of a number
abbrev pub byte_of : (n k : ℕ) → ℕ
byte_of n k = n / 2 ^ (8 * k) % 256

-- the first bytes of a number
abbrev pub bytes_of : (count n : ℕ) → List ℕ
bytes_of zero n = []
bytes_of (suc count) n = bytes_of count n ++ byte_of n count ∷ []

-- `count` bytes of a text from byte `at` on
abbrev pub part_of : (at count : ℕ) → List ℕ → List ℕ
part_of at count text = take count (drop at text)

-- no number of a list is above a limit
abbrev pub AllLe : (limit : ℕ) → List ℕ → Type 0
AllLe limit [] = Unit {0}
AllLe limit (n ∷ ns) = (n ≤ limit) × AllLe limit ns
