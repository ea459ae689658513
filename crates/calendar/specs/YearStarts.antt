-- A table of the days on which the years of a cycle begin, for private contracts only.
use Rattle.std.specs.Prelude.{ℕ, ◌≤◌, ◌≡◌, List, get_or}
use Rattle.calendar.specs.Closed.{cycle_years, start}

-- entry y is the day on which year y begins, up to the first year of the next cycle
pub record Starts (t : List ℕ) : Type 0 where
  pub at : (y : ℕ) → y ≤ cycle_years → get_or t y 0 ≡ start y
