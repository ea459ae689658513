-- The closed day number of a date: later dates have larger numbers, and a number has one date.
use Prim.Native.Nat.{ℕ, ◌+◌, ◌≤◌, ◌<◌}
use mathlib.Core.Path.{◌≡◌, sym, ap, ap₂}
use native.Mathlib.Decide.{dec_lt}
use native.Mathlib.Numerals.{add-one}
use native.Mathlib.Omega.{arith}
use Rattle.calendar.specs.Closed.{leap_day, start, before, Valid, day_number}
use Rattle.calendar.proofs.Leap.{leaps_step}
use Rattle.calendar.proofs.Months.{before_step, before_monotone, within_year, monotone}

pub start_step : (y : ℕ) → start (y + 1) ≡ start y + 365 + leap_day y
unfolding start
start_step y = omega (arith, leaps_step y)

pub start_monotone : (y z : ℕ) → y ≤ z → start y ≤ start z
start_monotone = monotone start (λ y. rw (← add-one y) (omega (arith, start_step y)))

-- a year's days lie between its start and the next year's
pub within : (y m d : ℕ) → Valid y m d → (start y ≤ day_number y m d) × (day_number y m d < start (y + 1))
unfolding day_number
within y m d v =
    (omega arith, omega (arith, start_step y, within_year (leap_day y) m d v.month_low v.month_high v.day_low v.day_high))

-- the date y m d is earlier than y' m' d'
pub data Precedes (y m d y' m' d' : ℕ) : Type 0 where
  in_year : y < y' → Precedes y m d y' m' d'
  in_month : y ≡ y' → m < m' → Precedes y m d y' m' d'
  in_day : y ≡ y' → m ≡ m' → d < d' → Precedes y m d y' m' d'

pub precedes_less : (y m d y' m' d' : ℕ) → Valid y m d → Valid y' m' d' → Precedes y m d y' m' d' → day_number y m d < day_number y' m' d'
unfolding day_number
precedes_less y m d y' m' d' v w (in_year h) =
    omega (arith, (within y m d v).1, (within y' m' d' w).0, start_monotone (y + 1) y' (omega arith))
precedes_less y m d y' m' d' v w (in_month p h) =
    omega (
      arith,
      ap start p,
      before_step (leap_day y) m,
      before_monotone (leap_day y) (m + 1) m' (omega arith),
      ap (λ y. before (leap_day y) m') p,
      v.day_low,
      v.day_high,
    )
precedes_less y m d y' m' d' v w (in_day p q h) = omega (arith, ap start p, ap₂ (λ y m. before (leap_day y) m) p q, v.day_low)

three_ways : (G : Type 0) (a b : ℕ) → (a < b → G) → (a ≡ b → G) → (b < a → G) → G
three_ways G a b f g h = go (dec_lt a b) (dec_lt b a)
  where
    go : Dec (a < b) → Dec (b < a) → G
    go (yes p) q = f p
    go (no p) (yes q) = h q
    go (no p) (no q) = g (omega arith)

-- of two dates one is earlier, or they are equal
pub trichotomy :
    {G : Type 0} (y m d y' m' d' : ℕ) → (Precedes y m d y' m' d' → G) → (y ≡ y' → m ≡ m' → d ≡ d' → G) →
    (Precedes y' m' d' y m d → G) → G
trichotomy {G} y m d y' m' d' f g h =
    three_ways G y y' (λ a. f (in_year a))
    (λ p. three_ways G m m' (λ a. f (in_month p a))
    (λ q. three_ways G d d' (λ a. f (in_day p q a)) (λ r. g p q r) (λ a. h (in_day (sym p) (sym q) a)))
    (λ a. h (in_month (sym p) a)))
    (λ a. h (in_year a))
