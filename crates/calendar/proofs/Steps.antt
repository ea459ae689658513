-- The calendar by steps is the closed forms: the date n days after the first is the one date with the day number cycle + n.
use Prim.Native.Nat.{ℕ, zero, suc, ◌+◌, ◌≤◌, ◌<◌}
use mathlib.Core.Path.{◌≡◌, refl, sym, ap, ◌∙◌, subst}
use mathlib.Core.Bool.{Bool, true, false}
use native.Mathlib.Decide.{dec_lt}
use native.Mathlib.Nat.{add-zero, zero-add, add-suc, suc-add}
use native.Mathlib.Omega.{arith, by_contra}
use lib.IntN.{pos, nat_abs, ◌+ℤ◌, +ℤ_assoc}
use borrow.Author.Tests.{lt-ltb, le-ltb}
use Rattle.numbers.specs.Range.{eq_z}
use Rattle.numbers.proofs.Integers.{eq_z_same, eq_z_true, add_injective}
use Rattle.numbers.proofs.Bools.{and_left, and_right}
use Rattle.calendar.specs.declared.Date.{Date}
use Rattle.calendar.specs.Range.{first_count}
use Rattle.calendar.specs.Gregorian.{date_of, next_day, first_date, date_after}
use Rattle.calendar.specs.Count.{same_date, days_until, count_of_date}
use Rattle.calendar.specs.Closed.{from_year, to_year, base_year, cycle, last_day, leap_day, leapℕ, leaps, start, month_days, before, Valid, InRange, day_number, public}
use Rattle.calendar.proofs.Months.{length_positive, before_step, before_first, year_end, length_public}
use Rattle.calendar.proofs.Order.{start_step, start_monotone, within, precedes_less, trichotomy}

-- the three cases of the day after
next_in_month : (y m d : ℕ) → 1 ≤ m → m ≤ 12 → d < month_days (leap_day y) m → next_day (public y m d) ≡ public y m (d + 1)
unfolding next_day
next_in_month y m d lo hi h = rw (length_public y m lo hi, lt-ltb d (month_days (leap_day y) m) h)

next_in_year : (y m d : ℕ) → 1 ≤ m → m < 12 → month_days (leap_day y) m ≤ d → next_day (public y m d) ≡ public y (m + 1) 1
unfolding next_day
next_in_year y m d lo hi h = rw (length_public y m lo (omega arith), le-ltb d (month_days (leap_day y) m) h, lt-ltb m 12 hi)

next_of_years : (y d : ℕ) → month_days (leap_day y) 12 ≤ d → next_day (public y 12 d) ≡ public (y + 1) 1 1
unfolding next_day
next_of_years y d h =
    rw (length_public y 12 (omega arith) (omega arith), le-ltb d (month_days (leap_day y) 12) h)
    (ap (λ z. date_of z (pos 1) (pos 1)) (+ℤ_assoc base_year (pos y) (pos 1)))

-- the date n days after the first, in natural numbers
pub record DateAt (n : ℕ) : Type 0 where
  pub year : ℕ
  pub month : ℕ
  pub day : ℕ
  pub is_valid : Valid year month day
  pub number : day_number year month day ≡ cycle + n
  pub is : date_after n ≡ public year month day

at_first : DateAt 0
unfolding date_after day_number start leaps leap_day leapℕ before month_days
at_first =
    record {
      year = from_year;
      month = 1;
      day = 1;
      is_valid = record { month_low = omega arith; month_high = omega arith; day_low = omega arith; day_high = omega arith };
      number = refl;
      is = refl;
    }

after_month : (y m d : ℕ) → Valid y m d → d < month_days (leap_day y) m → Valid y m (d + 1) × (day_number y m (d + 1) ≡ day_number y m d + 1)
unfolding day_number
after_month y m d v h = (
  record { month_low = v.month_low; month_high = v.month_high; day_low = omega arith; day_high = omega arith },
  omega (arith, v.day_low),
)

after_year : (y m d : ℕ) → Valid y m d → m < 12 → month_days (leap_day y) m ≤ d → Valid y (m + 1) 1 × (day_number y (m + 1) 1 ≡ day_number y m d + 1)
unfolding day_number
after_year y m d v k h = (
  record {
    month_low = omega arith;
    month_high = omega arith;
    day_low = omega arith;
    day_high = length_positive (leap_day y) (m + 1) (omega arith) (omega arith);
  },
  omega (arith, before_step (leap_day y) m, v.day_low, v.day_high),
)

after_years : (y d : ℕ) → Valid y 12 d → month_days (leap_day y) 12 ≤ d → Valid (y + 1) 1 1 × (day_number (y + 1) 1 1 ≡ day_number y 12 d + 1)
unfolding day_number
after_years y d v h = (
  record {
    month_low = omega arith;
    month_high = omega arith;
    day_low = omega arith;
    day_high = length_positive (leap_day (y + 1)) 1 (omega arith) (omega arith);
  },
  omega (arith, year_end (leap_day y) 12 refl, before_first (leap_day (y + 1)), start_step y, v.day_low, v.day_high),
)

module _ (n : ℕ) (a : DateAt n) where
  next_at : (y m d : ℕ) → Valid y m d × (day_number y m d ≡ day_number a.year a.month a.day + 1) →
      next_day (public a.year a.month a.day) ≡ public y m d → DateAt (suc n)
  unfolding date_after
  next_at y m d v e =
      record {
        year = y;
        month = m;
        day = d;
        is_valid = v.0;
        number = let k = v.1 in omega (arith, a.number);
        is = ap next_day a.is ∙ e;
      }

  at_next : DateAt (suc n)
  at_next = by_length (dec_lt a.day (month_days (leap_day a.year) a.month))
    where
      last_month : month_days (leap_day a.year) a.month ≤ a.day → (a.month ≡ 12) → DateAt (suc n)
      last_month h e =
          let v : Valid a.year 12 a.day = subst (λ m. Valid a.year m a.day) e a.is_valid in
          let l : month_days (leap_day a.year) 12 ≤ a.day = subst (λ m. month_days (leap_day a.year) m ≤ a.day) e h in
          let w = after_years a.year a.day v l in
          next_at (a.year + 1) 1 1
          (w.0, w.1 ∙ ap (λ m. day_number a.year m a.day + 1) (sym e))
          (ap (λ m. next_day (public a.year m a.day)) e ∙ next_of_years a.year a.day l)

      by_month : month_days (leap_day a.year) a.month ≤ a.day → Dec (a.month < 12) → DateAt (suc n)
      by_month h (yes k) =
          next_at a.year (a.month + 1) 1 (after_year a.year a.month a.day a.is_valid k h)
          (next_in_year a.year a.month a.day a.is_valid.month_low k h)
      by_month h (no k) = last_month h (omega (arith, a.is_valid.month_high))

      by_length : Dec (a.day < month_days (leap_day a.year) a.month) → DateAt (suc n)
      by_length (yes h) =
          next_at a.year a.month (a.day + 1) (after_month a.year a.month a.day a.is_valid h)
          (next_in_month a.year a.month a.day a.is_valid.month_low a.is_valid.month_high h)
      by_length (no h) = by_month (omega arith) (dec_lt a.month 12)

pub at : (n : ℕ) → DateAt n
at zero = at_first
at (suc n) = at_next n (at n)

-- a number has one date
pub unique : (y m d y' m' d' : ℕ) → Valid y m d → Valid y' m' d' → day_number y m d ≡ day_number y' m' d' → public y m d ≡ public y' m' d'
unique y m d y' m' d' v w p =
    trichotomy y m d y' m' d' (λ a. absurd (omega (arith, precedes_less y m d y' m' d' v w a)))
    (λ q r s. λ i. public (q i) (r i) (s i))
    (λ a. absurd (omega (arith, precedes_less y' m' d' y m d w v a)))

-- whoever finds a valid date with the right number has found the date
pub found : (n y m d : ℕ) → Valid y m d → day_number y m d ≡ cycle + n → date_after n ≡ public y m d
found n y m d v e =
    let a = at n in
    a.is ∙ unique a.year a.month a.day y m d a.is_valid v (a.number ∙ sym e)

-- a date stands at one number
number_public : (y m d y' m' d' : ℕ) → public y m d ≡ public y' m' d' → day_number y m d ≡ day_number y' m' d'
number_public y m d y' m' d' e =
    let p = add_injective base_year y y' (ap (λ (d : Date). d.year) e) in
    let q = ap (λ (d : Date). nat_abs d.month) e in
    let r = ap (λ (d : Date). nat_abs d.day) e in
    λ i. day_number (p i) (q i) (r i)

pub one_number : (a b : ℕ) → date_after a ≡ date_after b → a ≡ b
one_number a b e =
    let x = at a in
    let y = at b in
    let c = number_public x.year x.month x.day y.year y.month y.day (sym x.is ∙ e ∙ y.is) in
    omega (arith, x.number, y.number)

-- counting day by day
same_date_lem : (d : Date) → same_date d d ≡ true
same_date_lem d = simp (eq_z_same d.year, eq_z_same d.month, eq_z_same d.day)

date_same : (d e : Date) → same_date d e ≡ true → d ≡ e
date_same d e h =
    let rest = and_right (eq_z d.year e.year) _ h in
    let p = eq_z_true d.year e.year (and_left (eq_z d.year e.year) _ h) in
    let q = eq_z_true d.month e.month (and_left (eq_z d.month e.month) _ rest) in
    let r = eq_z_true d.day e.day (and_right (eq_z d.month e.month) _ rest) in
    λ i. record { year = p i; month = q i; day = r i }

other_date : (a b : ℕ) → a < b → same_date (date_after a) (date_after b) ≡ false
other_date a b h = go (same_date (date_after a) (date_after b)) refl
  where
    go : (t : Bool) → same_date (date_after a) (date_after b) ≡ t → t ≡ false
    go true e = absurd (omega (arith, one_number a b (date_same (date_after a) (date_after b) e)))
    go false e = refl

pub until : (most i j : ℕ) → j ≤ most → days_until most (date_after i) (date_after (i + j)) ≡ j
unfolding days_until date_after
until zero i j h = omega arith
until (suc most) i zero h = rw (add-zero i, same_date_lem (date_after i))
until (suc most) i (suc j) h =
    rw (other_date i (i + suc j) (omega arith))
    (ap suc (ap (λ k. days_until most (next_day (date_after i)) (date_after k)) (add-suc i j ∙ sym (suc-add i j)) ∙ until most (suc i) j (omega arith)))

from_first : (most n : ℕ) → days_until most first_date (date_after n) ≡ days_until most (date_after 0) (date_after (0 + n))
unfolding date_after
from_first most n = ap (λ k. days_until most first_date (date_after k)) (sym (zero-add n))

pub count_after : (n : ℕ) → n ≤ last_day → count_of_date (date_after n) ≡ first_count +ℤ pos n
unfolding count_of_date
count_after n h = ap (λ k. first_count +ℤ pos k) (from_first last_day n ∙ until last_day 0 n h)

-- the years of the range, counted from base_year, and their days
pub start_first : start from_year ≡ cycle
unfolding start leaps
start_first = refl

start_end : start (to_year + 1) ≡ cycle + (last_day + 1)
unfolding start leaps
start_end = refl

pub number_in_range : (y m d : ℕ) → InRange y m d → (cycle ≤ day_number y m d) × (day_number y m d ≤ cycle + last_day)
number_in_range y m d r =
    let w = within y m d r.is_valid in (
      omega (arith, start_first, start_monotone from_year y r.from, w.0),
      omega (arith, start_end, start_monotone (y + 1) (to_year + 1) (omega (arith, r.to)), w.1),
    )

pub at_in_range : (n : ℕ) → n ≤ last_day → InRange (at n).year (at n).month (at n).day
at_in_range n h =
    let a = at n in
    let w = within a.year a.month a.day a.is_valid in
    record {
      is_valid = a.is_valid;
      from = by_contra _ _ (λ k. omega (arith, a.number, start_first, start_monotone (a.year + 1) from_year (omega arith), w.1));
      to = by_contra _ _ (λ k. omega (arith, a.number, start_end, start_monotone (to_year + 1) a.year (omega arith), w.0));
    }
