-- For proofs and private contracts only: the first number of which something holds, what a gap takes, and what keeps a side's numbers
-- small.
use Rattle.std.specs.Prelude.{ℕ, ◌*◌, ◌^◌, ◌≤◌, ◌<◌, Option, Some, None}
use Rattle.constants.specs.Limits.{last_a, last_d, last_m, last_k}

-- P holds of no number below L
abbrev pub NoneOf : (P : ℕ → Type 0) (L : ℕ) → Type 0
NoneOf P L = (n : ℕ) → n < L → P n → ⊥

-- n is the least number below L of which P holds
pub record FirstOf (P : ℕ → Type 0) (L n : ℕ) : Type 0 where
  pub below : n < L
  pub here : P n
  pub before : NoneOf P n

-- what a search for the least number below L of which P holds finds
abbrev pub IsFirst : (P : ℕ → Type 0) (L : ℕ) → Option ℕ → Type 0
IsFirst P L (Some n) = FirstOf P L n
IsFirst P L None = NoneOf P L

-- the fewest periods that close a gap, where each closes `gain` of it
abbrev pub IsFewest : (gap gain : ℕ) → Option ℕ → Type 0
IsFewest gap gain (Some j) = (gap ≤ gain * j) × NoneOf (λ i. gap ≤ gain * i) j
IsFewest gap gain None = (j : ℕ) → gap ≤ gain * j → ⊥

-- what keeps a side's numbers within 64 bits
pub record Narrow (a d m power rest need have gain : ℕ) : Type 0 where
  pub a_hi : a ≤ last_a
  pub d_lo : 0 < d
  pub d_hi : d ≤ last_d
  pub m_hi : m ≤ last_m
  pub power_hi : power ≤ 2 ^ last_k
  pub rest_lt : rest < d
  pub need_lt : need < 2 ^ 59
  pub have_lt : have < 2 ^ 59
  pub gain_lt : gain < 2 ^ 59
