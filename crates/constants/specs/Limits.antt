-- "Allowed: a 1..1023, b 0..1023, d 1..1048575, m and c 0..4294967295, k 0..47, t 0..255, search end L 0..4294967295,
-- claimed bound B 0..4294967294": document 01, "Constants on trial".
use Rattle.std.specs.Prelude.{ℕ, ◌≤◌, ℤ, pos, nat_abs, Bool, true, false, ◌||◌, ◌≡◌, Result, Ok, Err}
use Rattle.refusal.specs.declared.Refusal.{Refusal}
use Rattle.refusal.specs.declared.Refusal.TheVariants.{ConstantOutOfLimits}
use Rattle.numbers.specs.Range.{outside, Within}

-- the first allowed number, where it is not 0
abbrev pub first_a : ℕ
first_a = 1

abbrev pub first_d : ℕ
first_d = 1

-- the last allowed number
abbrev pub last_a : ℕ
last_a = 1023

abbrev pub last_b : ℕ
last_b = 1023

abbrev pub last_d : ℕ
last_d = 1048575

abbrev pub last_m : ℕ
last_m = 4294967295

abbrev pub last_c : ℕ
last_c = 4294967295

abbrev pub last_k : ℕ
last_k = 47

abbrev pub last_t : ℕ
last_t = 255

-- of the search end L
abbrev pub last_end : ℕ
last_end = 4294967295

-- of the claimed bound B
abbrev pub last_bound : ℕ
last_bound = 4294967294

-- one of a, b, d, m, c, k, t is outside its limits
unfoldable pub outside_limits : (a b d m c k t : ℤ) → Bool
outside_limits a b d m c k t =
    outside (pos first_a) (pos last_a) a || outside (pos 0) (pos last_b) b || outside (pos first_d) (pos last_d) d
    || outside (pos 0) (pos last_m) m || outside (pos 0) (pos last_c) c || outside (pos 0) (pos last_k) k || outside (pos 0) (pos last_t) t

-- the search end L is outside its limits
abbrev pub end_outside : (end : ℤ) → Bool
end_outside end = outside (pos 0) (pos last_end) end

-- the claimed bound B is outside its limits
abbrev pub bound_outside : (bound : ℤ) → Bool
bound_outside bound = outside (pos 0) (pos last_bound) bound

-- every constant is a natural number in its limits
pub record AllWithin (a b d m c k t : ℤ) : Type 0 where
  pub a_in : Within first_a last_a a
  pub b_in : Within 0 last_b b
  pub d_in : Within first_d last_d d
  pub m_in : Within 0 last_m m
  pub c_in : Within 0 last_c c
  pub k_in : Within 0 last_k k
  pub t_in : Within 0 last_t t

-- what only private contracts need: the constants as natural numbers lie in their limits
pub record Allowed (a b d m c k t : ℕ) : Type 0 where
  pub a_lo : first_a ≤ a
  pub a_hi : a ≤ last_a
  pub b_hi : b ≤ last_b
  pub d_lo : first_d ≤ d
  pub d_hi : d ≤ last_d
  pub m_hi : m ≤ last_m
  pub c_hi : c ≤ last_c
  pub k_hi : k ≤ last_k
  pub t_hi : t ≤ last_t

-- a number that lies in first..last, and the same as a natural number
pub record IsInside (first last : ℕ) (z : ℤ) (n : ℕ) : Type 0 where
  pub inside : outside (pos first) (pos last) z ≡ false
  pub is : n ≡ nat_abs z
  pub low : first ≤ n
  pub high : n ≤ last

-- what the test of a number against its limits tells
abbrev pub TestsNumber : (first last : ℕ) (z : ℤ) → Result ℕ Refusal → Type 0
TestsNumber first last z (Ok n) = IsInside first last z n
TestsNumber first last z (Err why) = (outside (pos first) (pos last) z ≡ true) × (why ≡ ConstantOutOfLimits)
