-- The months of a year: one law for what is shown month by month, their lengths and the days before them.
use Prim.Native.Nat.{ℕ, zero, suc, ◌+◌, ◌-◌, ◌*◌, ◌≤◌, ◌<◌}
use mathlib.Core.Path.{◌≡◌, refl, sym, ap, ◌∙◌, subst}
use mathlib.Core.Bool.{Bool, true, false, cond}
use native.Mathlib.Omega.{arith}
use native.Mathlib.Decide.{dec_lt}
use native.Mathlib.Nat.{le_refl, le_trans, add-zero, add-suc}
use native.Mathlib.Numerals.{add-one}
use lib.Dec.{eqb, ltb}
use lib.IntN.{pos, ◌+ℤ◌}
use lib.ListN.{get_or, take}
use mir.Val.{bool_byte}
use Rattle.calendar.specs.Gregorian.{leap_year, month_lengths, month_length, days_before}
use Rattle.calendar.specs.Count.{sum}
use Rattle.calendar.specs.Closed.{base_year, leapℕ, leap_day, month_days, before}
use Rattle.calendar.proofs.Leap.{leap_public}

-- P holds of 1 to n
abbrev pub UpTo : (P : ℕ → Type 0) → ℕ → Type 0
UpTo P zero = Unit {0}
UpTo P (suc n) = UpTo P n × P (suc n)

at_end : (P : ℕ → Type 0) (n m : ℕ) → P (suc n) → (m ≤ n → P m) → m ≤ suc n → P m
at_end P n m here below hi = go (dec_lt n m)
  where
    go : Dec (n < m) → P m
    go (yes h) = subst P (omega arith) here
    go (no h) = below (omega arith)

pub up_to : (P : ℕ → Type 0) (n : ℕ) → UpTo P n → (m : ℕ) → 1 ≤ m → m ≤ n → P m
up_to P zero all m lo hi = absurd (omega arith)
up_to P (suc n) all m lo hi = at_end P n m all.1 (λ h. up_to P n all.0 m lo h) hi

pub each_month : (P : ℕ → Type 0) → UpTo P 12 → (m : ℕ) → 1 ≤ m → m ≤ 12 → P m
each_month P = up_to P 12

pub length_positive : (l m : ℕ) → 1 ≤ m → m ≤ 12 → 1 ≤ month_days l m
unfolding month_days
length_positive l = each_month (λ m. 1 ≤ month_days l m) (omega arith)

pub length_le : (l m : ℕ) → l ≤ 1 → 1 ≤ m → m ≤ 12 → month_days l m ≤ 31
unfolding month_days
length_le l m h = each_month (λ m. month_days l m ≤ 31) (omega arith) m

pub before_step : (l m : ℕ) → before l (m + 1) ≡ before l m + month_days l m
unfolding before
before_step l m = rw add-one

pub before_first : (l : ℕ) → before l 1 ≡ 0
unfolding before month_days
before_first l = refl

year_length : (l : ℕ) → before l 12 + month_days l 12 ≡ 365 + l
unfolding before month_days
year_length l = omega arith

pub year_end : (l m : ℕ) → m ≡ 12 → before l m + month_days l m ≡ 365 + l
year_end l m h = rw h (year_length l)

-- what grows with each step grows
grows : (f : ℕ → ℕ) → ((n : ℕ) → f n ≤ f (suc n)) → (m k : ℕ) → f m ≤ f (m + k)
grows f g m zero = rw add-zero (le_refl (f m))
grows f g m (suc k) = rw add-suc (le_trans (grows f g m k) (g (m + k)))

pub monotone : (f : ℕ → ℕ) → ((n : ℕ) → f n ≤ f (suc n)) → (m n : ℕ) → m ≤ n → f m ≤ f n
monotone f g m n h = subst (λ (k : ℕ). f m ≤ f k) (omega arith) (grows f g m (n - m))

before_up : (l m : ℕ) → before l m ≤ before l (suc m)
before_up l m = rw (← add-one m) (omega (arith, before_step l m))

pub before_monotone : (l m n : ℕ) → m ≤ n → before l m ≤ before l n
before_monotone l = monotone (before l) (before_up l)

-- a date's place in its year
pub within_year : (l m d : ℕ) → 1 ≤ m → m ≤ 12 → 1 ≤ d → d ≤ month_days l m → before l m + (d - 1) < 365 + l
within_year l m d a b e f =
    omega (arith, before_step l m, before_step l 12, before_monotone l (m + 1) 13 (omega arith), year_length l)

-- the lengths of document 01 are those of the closed forms
pub length_of : (t : Bool) (m : ℕ) → 1 ≤ m → m ≤ 12 → get_or (month_lengths t) (m - 1) 0 ≡ month_days (cond t 1 0) m
unfolding month_lengths month_days
length_of true = each_month (λ m. get_or (month_lengths true) (m - 1) 0 ≡ month_days 1 m) (omega arith)
length_of false = each_month (λ m. get_or (month_lengths false) (m - 1) 0 ≡ month_days 0 m) (omega arith)

pub length_public : (y m : ℕ) → 1 ≤ m → m ≤ 12 → month_length (base_year +ℤ pos y) (pos m) ≡ pos (month_days (leap_day y) m)
unfolding month_length leap_day
length_public y m lo hi = rw (leap_public y) (ap pos (length_of (leapℕ y) m lo hi))

before_of : (t : Bool) (m : ℕ) → 1 ≤ m → m ≤ 12 → sum (take (m - 1) (month_lengths t)) ≡ before (cond t 1 0) m
unfolding month_lengths month_days before
before_of true = each_month (λ m. sum (take (m - 1) (month_lengths true)) ≡ before 1 m) (omega arith)
before_of false = each_month (λ m. sum (take (m - 1) (month_lengths false)) ≡ before 0 m) (omega arith)

pub before_public : (y m : ℕ) → 1 ≤ m → m ≤ 12 → sum (take (m - 1) (month_lengths (leap_year (base_year +ℤ pos y)))) ≡ before (leap_day y) m
unfolding leap_day
before_public y m lo hi = rw (leap_public y) (before_of (leapℕ y) m lo hi)

-- the table of the days before each month in a common year
pub table_entry : (m : ℕ) → 1 ≤ m → m ≤ 12 → (get_or days_before (m - 1) 0 ≡ before 0 m) × (before 0 m ≤ 334)
unfolding days_before before month_days
table_entry = each_month (λ m. (get_or days_before (m - 1) 0 ≡ before 0 m) × (before 0 m ≤ 334)) (omega arith)

pub table_sum : (m : ℕ) → 1 ≤ m → m ≤ 12 → get_or days_before (m - 1) 0 ≡ sum (take (m - 1) (month_lengths false))
table_sum m lo hi = (table_entry m lo hi).0 ∙ sym (before_of false m lo hi)

-- the leap day falls into February
pub with_leap_day : (l m : ℕ) → 1 ≤ m → m ≤ 12 → month_days 0 m + bool_byte (eqb m 2) * l ≡ month_days l m
unfolding month_days
with_leap_day l = each_month (λ m. month_days 0 m + bool_byte (eqb m 2) * l ≡ month_days l m) (omega arith)

-- the leap day counts from March on
pub before_leap : (l m : ℕ) → 1 ≤ m → m ≤ 12 → before 0 m + bool_byte (ltb 2 m) * l ≡ before l m
unfolding before month_days
before_leap l = each_month (λ m. before 0 m + bool_byte (ltb 2 m) * l ≡ before l m) (omega arith)

pub before_early : (l m : ℕ) → 1 ≤ m → m < 3 → before l m ≡ before 0 m
unfolding before month_days
before_early l m lo hi = up_to (λ m. before l m ≡ before 0 m) 2 (omega arith) m lo (omega arith)

pub before_late : (l m : ℕ) → 3 ≤ m → m ≤ 12 → before l m ≡ before 0 m + l
unfolding before month_days
before_late l m lo hi =
    let i : m - 2 + 2 ≡ m = omega arith in
    subst (λ m. before l m ≡ before 0 m + l) i
    (up_to (λ i. before l (i + 2) ≡ before 0 (i + 2) + l) 10 (omega arith) (m - 2) (omega arith) (omega arith))
