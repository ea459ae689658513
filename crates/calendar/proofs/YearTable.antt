-- The table of the days on which the years of a cycle begin, and the date of a day by it.
use Prim.Native.Nat.{ℕ, ◌+◌, ◌-◌, ◌*◌, ◌/◌, ◌%◌, ◌≤◌, ◌<◌}
use mathlib.Core.Path.{◌≡◌, refl, sym, ◌∙◌, subst}
use mathlib.Core.List.{List}
use native.Mathlib.Omega.{arith, by_contra}
use lib.Dec.{leb}
use lib.ListN.{length, get_or, set}
use lib.Seq.{get_or-set_same, get_or-set_other}
use borrow.Author.Count.{below_more}
use borrow.Author.Tests.{leb-true, leb-false}
use mathlib.Core.Bool.{true, false}
use Rattle.std.specs.List.Sorted.{IsNonDecreasingBy, IsPartitionPoint}
use Rattle.std.proofs.lemmas.List.{get_or_default}
use Rattle.calendar.specs.Gregorian.{date_after}
use Rattle.calendar.specs.Closed.{cycle_years, cycle, leap_day, leaps, start, month_days, before, Valid, day_number, public}
use Rattle.calendar.specs.YearStarts.{Starts}
use Rattle.calendar.proofs.Order.{start_monotone}
use Rattle.calendar.proofs.Steps.{start_first, found}
use Rattle.calendar.proofs.March.{valid_date}
use Rattle.calendar.proofs.Centuries.{number_again, valid_again}

-- the year 0 begins on the day 0
start_zero : start 0 ≡ 0
unfolding start leaps
start_zero = refl

-- the years of a cycle, and the one after them, begin within its days
pub start_small : (y : ℕ) → y ≤ cycle_years → start y ≤ cycle
start_small y h = omega (arith, start_monotone y cycle_years h, start_first)

-- the entries below n are when the years begin
abbrev pub Filled : (t : List ℕ) (n : ℕ) → Type 0
Filled t n = (y : ℕ) → y < n → get_or t y 0 ≡ start y

-- a first entry of 0 is right
pub filled_first : (t : List ℕ) → get_or t 0 0 ≡ 0 → Filled t 1
filled_first t e y h = subst (λ y. get_or t y 0 ≡ start y) (omega arith) (e ∙ sym start_zero)

-- an entry that is written after the right ones is one more
pub filled_more : (t : List ℕ) (n s : ℕ) → n < length t → s ≡ start n → Filled t n → Filled (set t n s) (n + 1)
filled_more t n s h e f =
    below_more (λ y. get_or (set t n s) y 0 ≡ start y) n (λ y l. get_or-set_other t n y s 0 (λ p. omega arith) ∙ f y l)
    (get_or-set_same t n s 0 h ∙ e)

-- a full table, in which a day of the cycle is looked up
module _ (t : List ℕ) (n : length t ≡ 401) (s : Starts t) where
  entry : (y d : ℕ) → y ≤ cycle_years → get_or t y d ≡ start y
  entry y d h = get_or_default t y d 0 (omega arith) ∙ s.at y h

  -- its entries rise
  pub starts_rise : IsNonDecreasingBy (λ (x : ℕ). x) t
  starts_rise i j d h l = omega (arith, entry i d (omega arith), entry j d (omega arith), start_monotone i j h)

  -- the year before the first that begins after the day r has that day
  pub year_found :
      (r p : ℕ) → r < cycle → IsPartitionPoint (λ (y : ℕ). leb y r ≡ true) (λ y. leb y r ≡ false) t p →
      (1 ≤ p) × ((p - 1 < cycle_years) × ((start (p - 1) ≤ r) × (r < start (p - 1 + 1))))
  year_found r p h q = (low, (omega (arith, low, high), (omega (arith, begun (p - 1) (omega (arith, low)) (omega (arith, low, high))), later)))
    where
      -- the years before p have begun
      begun : (y : ℕ) → y < p → y ≤ cycle_years → start y ≤ r
      begun y l k = omega (arith, leb-true (get_or t y 0) r (q.0 y 0 (omega arith) l), entry y 0 k)

      -- and those from p on have not
      not_begun : (y : ℕ) → p ≤ y → y ≤ cycle_years → r < start y
      not_begun y l k = omega (arith, leb-false (get_or t y 0) r (q.1 y 0 l (omega arith)), entry y 0 k)

      low : 1 ≤ p
      low = by_contra _ _ (λ k. omega (arith, not_begun 0 (omega arith) (omega arith), start_zero))

      high : p ≤ cycle_years
      high = by_contra _ _ (λ k. omega (arith, begun cycle_years (omega arith) (omega arith), start_first))

      later : r < start (p - 1 + 1)
      later = let e : p - 1 + 1 ≡ p = omega (arith, low) in rw e (not_begun p (omega arith) high)

-- the year y of the cycle that has the day n after the first
abbrev pub year_of_day : (n y : ℕ) → ℕ
year_of_day n y = (n + cycle) / cycle * cycle_years + y

-- the day k of a year, in the month that has it
module _ (y m k : ℕ) (lo : 1 ≤ m) (hi : m ≤ 12) (from : before (leap_day y) m ≤ k) (to : k < before (leap_day y) m + month_days (leap_day y) m) where
  -- it is a date
  day_valid : Valid y m (k - before (leap_day y) m + 1)
  day_valid = valid_date y m (k - before (leap_day y) m) lo hi (omega arith)

  -- its number is k more than that of the first of the year
  day_number_lem : day_number y m (k - before (leap_day y) m + 1) ≡ start y + k
  unfolding day_number
  day_number_lem = omega arith

  -- after the cycles before the day n it is the date of that day
  pub date_in_cycle : (n : ℕ) → start y + k ≡ (n + cycle) % cycle → date_after n ≡ public (year_of_day n y) m (k - before (leap_day y) m + 1)
  date_in_cycle n e =
      let q = (n + cycle) / cycle in
      let d = k - before (leap_day y) m + 1 in
      found n (year_of_day n y) m d (valid_again q y m d day_valid) (number_again q y m d ∙ omega (arith, day_number_lem))
