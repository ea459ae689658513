-- For proofs and private contracts only: a line against a staircase, in the words of stairs.rt.
use Rattle.std.specs.Prelude.{ℕ, ◌+◌, ◌-◌, ◌*◌, ◌/◌, ◌^◌, ◌≤◌, ◌<◌}

-- the staircase's steps at x
abbrev pub stair : (width rise start x : ℕ) → ℕ
stair width rise start x = (rise * x + start) / width

-- what the line lacks at x to be up with the staircase, which has a lead
abbrev pub line_gap : (width rise start slope height lead x : ℕ) → ℕ
line_gap width rise start slope height lead x = lead + height * stair width rise start x - slope * x

-- what the staircase lacks at x to be up with the line, which has a lead
abbrev pub stairs_gap : (width rise start slope height lead x : ℕ) → ℕ
stairs_gap width rise start slope height lead x = lead + slope * x - height * stair width rise start x

-- r is the least value of f below `end`
pub record LeastValue (f : ℕ → ℕ) (end r : ℕ) : Type 0 where
  pub taken : (x : ℕ) × (x < end) × (f x ≤ r)
  pub least : (x : ℕ) → x < end → r ≤ f x

-- what keeps every product within 64 bits at `line_gap`: where the line and the staircase are at the last x
pub record LineSizes (end width rise start slope height lead : ℕ) : Type 0 where
  pub some : 0 < end
  pub start_lt : start < width
  pub line_hi : slope * (end - 1) ≤ 2 ^ 61
  pub stairs_hi : lead + height * stair width rise start (end - 1) ≤ 2 ^ 61
  pub width_hi : rise * (end - 1) + width ≤ 2 ^ 61

-- and at `stairs_gap`
pub record StairsSizes (end width rise start slope height lead : ℕ) : Type 0 where
  pub some : 0 < end
  pub wide : 0 < width
  pub line_hi : lead + slope * (end - 1) ≤ 2 ^ 61
  pub stairs_hi : height * stair width rise start (end - 1) ≤ 2 ^ 61
  pub width_hi : rise * (end - 1) + width ≤ 2 ^ 61
  pub reach_hi : rise * (end - 1) + start ≤ 2 ^ 61
