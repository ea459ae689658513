-- Years and their weeks in natural numbers, counted from the base.
use Prim.Native.Nat.{ℕ, ◌+◌, ◌-◌, ◌*◌, ◌/◌, ◌%◌, ◌≤◌, ◌<◌}
use mathlib.Core.Path.{◌≡◌, refl, sym, ap, ◌∙◌}
use mathlib.Core.Bool.{Bool, true, false, cond, not, ◌||◌}
use native.Mathlib.Decide.{dec_lt}
use native.Mathlib.Omega.{arith, by_contra}
use lib.Dec.{ltb}
use lib.IntN.{ℤ, pos, negsuc}
use borrow.Author.Tests.{ltb-true, ltb-false, lt-ltb, le-ltb}
use Rattle.numbers.specs.Range.{outside}
use Rattle.calendar.specs.Closed.{leap_day, leaps, start}
use Rattle.calendar.proofs.Leap.{leap_le, leaps_next, few}
use Rattle.calendar.proofs.Quotients.{hundredth_product}
use Rattle.calendar.proofs.Order.{start_step, start_monotone}
use Rattle.week.specs.Closed.{leap_year_days, from_year, to_year, from_day, to_day, first_day, InYear, first_week, first_monday, weeks, day_of}

-- when years begin
pub base_start : start 1 ≡ leap_year_days
unfolding start leaps
base_start = refl

pub first_day_start : (y : ℕ) → first_day y + leap_year_days ≡ start (y + 1)
unfolding first_day
first_day_start y = omega (arith, base_start, start_monotone 1 (y + 1) (omega arith))

pub first_day_step : (y : ℕ) → first_day (y + 1) ≡ first_day y + 365 + leap_day (y + 1)
first_day_step y = omega (arith, first_day_start y, first_day_start (y + 1), start_step (y + 1))

pub first_day_monotone : (y z : ℕ) → y ≤ z → first_day y ≤ first_day z
first_day_monotone y z h = omega (arith, first_day_start y, first_day_start z, start_monotone (y + 1) (z + 1) (omega arith))

start_sum : (y L A C D : ℕ) → L + C ≡ A + D + 1 → C ≤ A → 365 * y + A - C + D + 366 ≡ 365 * (y + 1) + L
start_sum y L A C D e h = omega arith

quarter : (y : ℕ) → 1461 * y / 4 ≡ 365 * y + y / 4
quarter y = omega arith

-- the code's form
pub first_day_is : (y : ℕ) → 1461 * y / 4 - y / 100 + y / 100 / 4 ≡ first_day y
unfolding start
first_day_is y =
    let s = start_sum y (leaps (y + 1)) (y / 4) (y / 100) (y / 100 / 4) (leaps_next y) (few y) in
    let q = ap (λ a. a - y / 100 + y / 100 / 4) (quarter y) in
    omega (arith, s, q, first_day_start y)

-- with the century by a product
pub first_day_coded : (y : ℕ) → y ≤ to_year + 1 → 1461 * y / 4 - y * 167773 / 16777216 + y * 167773 / 16777216 / 4 ≡ first_day y
first_day_coded y h = ap (λ c. 1461 * y / 4 - c + c / 4) (hundredth_product y (omega arith)) ∙ first_day_is y

last_start : first_day (to_year + 1) ≡ to_day + 1
unfolding first_day start leaps
last_start = refl

pub first_day_of_first : first_day from_year + 365 ≡ from_day
unfolding first_day start leaps
first_day_of_first = refl

pub first_day_of_last : first_day to_year + 365 ≡ to_day + 1
unfolding first_day start leaps
first_day_of_last = refl

-- the last year's first day bounds every other
pub ruleset first_days = (first_day_monotone, first_day_of_last)

pub first_day_le : (y : ℕ) → y ≤ to_year + 1 → first_day y ≤ to_day + 1
first_day_le y h = omega (arith, last_start, first_day_monotone y (to_year + 1) h)

-- a day lies in one year
pub one_year : (n y z : ℕ) → InYear n y → InYear n z → y ≡ z
one_year n y z a b = go (dec_lt y z) (dec_lt z y)
  where
    go : Dec (y < z) → Dec (z < y) → y ≡ z
    go (yes p) q = absurd (omega (arith, a.high, b.low, first_day_monotone (y + 1) z (omega arith)))
    go (no p) (yes q) = absurd (omega (arith, b.high, a.low, first_day_monotone (z + 1) y (omega arith)))
    go (no p) (no q) = omega arith

pub year_bound : (n y : ℕ) → InYear n y → n ≤ to_day + 365 → y ≤ to_year + 1
year_bound n y i h =
    by_contra _ _ (λ l. omega (arith, i.low, last_start, first_day_step (to_year + 1), first_day_monotone (to_year + 2) y (omega arith)))

-- the Thursday of the week of a day
abbrev pub thursday_at : ℕ → ℕ
thursday_at n = n + 3 - n % 7

-- 52 or 53 weeks
pub by_weeks :
    (P : ℕ → Type 0) (y : ℕ) → (first_monday y + 367 < first_day (y + 1) → P 53) → (first_day (y + 1) ≤ first_monday y + 367 → P 52) →
    P (weeks y)
unfolding weeks
by_weeks P y long short = go (ltb (first_monday y + 367) (first_day (y + 1))) refl
  where
    go : (t : Bool) → ltb (first_monday y + 367) (first_day (y + 1)) ≡ t → P (cond t 53 52)
    go true e = long (ltb-true (first_monday y + 367) (first_day (y + 1)) e)
    go false e = short (ltb-false (first_monday y + 367) (first_day (y + 1)) e)

-- the first Monday lies at most three days from the year's first day
pub record FirstMonday (y m : ℕ) : Type 0 where
  pub monday : m % 7 ≡ 0
  pub low : first_day y ≤ m + 3
  pub high : m ≤ first_day y + 3

pub first_monday_lem : (y : ℕ) → FirstMonday y (first_monday y)
unfolding first_week
first_monday_lem y = record { monday = omega arith; low = omega arith; high = omega arith }

-- a week date that its year has: the day of it lies in that week, whose Thursday lies in the year
pub record HasWeek (y w d : ℕ) : Type 0 where
  pub week_low : 1 ≤ w
  pub week_high : w ≤ weeks y
  pub day_low : 1 ≤ d
  pub day_high : d ≤ 7

pub record WeekDay (n y w d : ℕ) : Type 0 where
  pub in_year : InYear (thursday_at n) y
  pub week : (thursday_at n - first_day y) / 7 + 1 ≡ w
  pub weekday : n % 7 + 1 ≡ d

-- the year's length
year_days : (y : ℕ) → (first_day y + 365 ≤ first_day (y + 1)) × (first_day (y + 1) ≤ first_day y + 366)
year_days y = (omega (arith, first_day_step y), omega (arith, first_day_step y, leap_le (y + 1)))

day_of_monday : (m w d n : ℕ) → m % 7 ≡ 0 → 1 ≤ w → 1 ≤ d → d ≤ 7 → n ≡ m + 7 * (w - 1) + (d - 1) → (n % 7 + 1 ≡ d) × (thursday_at n ≡ m + 7 * (w - 1) + 3)
day_of_monday m w d n a b c e f = omega arith

-- forwards: such a day
pub day_of_week : (y w d : ℕ) → HasWeek y w d → WeekDay (day_of y w d) y w d
unfolding day_of
day_of_week y w d h =
    let m = first_monday_lem y in
    let e = day_of_monday (first_monday y) w d (day_of y w d) m.monday h.week_low h.day_low h.day_high refl in
    let t = e.1 in
    record {
      in_year = record {
        low = omega (arith, t, m.low);
        high = by_weeks (λ k. w ≤ k → thursday_at (day_of y w d) < first_day (y + 1)) y
            (λ l k. omega (arith, t, l, h.week_low))
            (λ l k. omega (arith, t, k, m.high, (year_days y).0, h.week_low))
            h.week_high;
      };
      week = omega (arith, t, m.low, m.high, h.week_low);
      weekday = e.0;
    }

thursday_from : (m s n w : ℕ) → m % 7 ≡ 0 → s ≤ m + 3 → m ≤ s + 3 → s ≤ thursday_at n → (thursday_at n - s) / 7 + 1 ≡ w → m + 7 * (w - 1) + n % 7 ≡ n
thursday_from m s n w a b c d e = omega arith

-- backwards: whatever day it is, it is that one, and its year has the week
pub week_of_day : (n y w d : ℕ) → WeekDay n y w d → HasWeek y w d × (day_of y w d ≡ n)
unfolding day_of
week_of_day n y w d h =
    let m = first_monday_lem y in
    let f = thursday_from (first_monday y) (first_day y) n w m.monday m.low m.high h.in_year.low h.week in
    let g = h.weekday in
    let k = h.week in (
      record {
        week_low = omega arith;
        week_high = by_weeks (λ k. w ≤ k) y
            (λ l. omega (arith, f, h.in_year.high, (year_days y).1, m.low))
            (λ l. omega (arith, f, l, h.in_year.high));
        day_low = omega arith;
        day_high = omega arith;
      },
      omega (arith, f),
    )

-- ---- the test of a week

-- week 53 is compared with the next year
pub last_week : (y : ℕ) → ltb (first_monday y + 367) (first_day (y + 1)) ≡ not (outside (pos 1) (pos (weeks y)) (pos 53))
last_week y =
    by_weeks (λ k. ltb (first_monday y + 367) (first_day (y + 1)) ≡ not (outside (pos 1) (pos k) (pos 53))) y
    (λ l. lt-ltb (first_monday y + 367) (first_day (y + 1)) l)
    (λ l. le-ltb (first_monday y + 367) (first_day (y + 1)) l)

-- beside 53 there is no number between 52 and 53, so any other week is in 1..52 exactly if it is in 1..53
above_52 : (n : ℕ) → (n ≡ 53 → ⊥) → ltb 52 n ≡ ltb 53 n
above_52 n other = go (dec_lt 53 n)
  where
    go : Dec (53 < n) → ltb 52 n ≡ ltb 53 n
    go (yes l) = lt-ltb 52 n (omega arith) ∙ sym (lt-ltb 53 n l)
    go (no l) = le-ltb 52 n (omega (arith, other)) ∙ sym (le-ltb 53 n (omega arith))

to_53 : (z : ℤ) → (z ≡ pos 53 → ⊥) → outside (pos 1) (pos 52) z ≡ outside (pos 1) (pos 53) z
to_53 (pos n) other = ap (λ t. ltb n 1 || t) (above_52 n (λ e. other (ap pos e)))
to_53 (negsuc n) other = refl

pub other_week : (y : ℕ) (z : ℤ) → (z ≡ pos 53 → ⊥) → outside (pos 1) (pos 52) z ≡ outside (pos 1) (pos (weeks y)) z
other_week y z other = by_weeks (λ k. outside (pos 1) (pos 52) z ≡ outside (pos 1) (pos k) z) y (λ l. to_53 z other) (λ l. refl)
