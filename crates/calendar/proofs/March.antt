-- Algorithm 3 of source document 000, section 6, is the calendar by steps. Its years begin on 1 March: day z of these years lies in
-- the century C on its day R, in the year Z of the century on its day k.
use Prim.Native.Nat.{ℕ, ◌+◌, ◌-◌, ◌*◌, ◌/◌, ◌%◌, ◌≤◌, ◌<◌}
use mathlib.Core.Path.{◌≡◌, refl, sym, ap, ◌∙◌, subst}
use mathlib.Core.Bool.{Bool, true, false}
use native.Mathlib.Decide.{dec_lt}
use native.Mathlib.Nat.{add-zero, sub-zero}
use native.Mathlib.Omega.{arith, by_contra}
use lib.Dec.{leb}
use borrow.Author.Tests.{leb-true, leb-false}
use mir.Val.{bool_byte}
use Rattle.calendar.specs.Gregorian.{date_after}
use Rattle.day_table.specs.Closed.{new_year}
use Rattle.calendar.specs.Closed.{cycle, first_from_march, leap_day, leaps, start, month_days, before, Valid, day_number, public}
use Rattle.calendar.proofs.Leap.{leap_le, leap_is_one, leaps_next}
use Rattle.calendar.proofs.Months.{UpTo, up_to}
use Rattle.calendar.proofs.Order.{start_step}
use Rattle.calendar.proofs.Steps.{found}

-- the century and the day in it
record CenturyDay (z C R : ℕ) : Type 0 where
  sum : z ≡ 36524 * C + C / 4 + R
  most : R ≤ 36524
  full : R ≡ 36524 → C % 4 ≡ 3

pub century_sum : (z : ℕ) → z ≡ 36524 * ((4 * z + 3) / cycle) + (4 * z + 3) / cycle / 4 + (4 * z + 3) % cycle / 4
century_sum z = omega arith

century : (z : ℕ) → CenturyDay z ((4 * z + 3) / cycle) ((4 * z + 3) % cycle / 4)
century z = let s = century_sum z in omega arith

-- the year of the century and the day in it
record YearDay (R Z k : ℕ) : Type 0 where
  sum : R ≡ 365 * Z + Z / 4 + k
  most : Z ≤ 99
  days : k ≤ 365
  full : k ≡ 365 → Z % 4 ≡ 3
  last : k ≡ 365 → Z ≡ 99 → R ≡ 36524

year_sum : (R : ℕ) → R ≡ 365 * ((4 * R + 3) / 1461) + (4 * R + 3) / 1461 / 4 + (4 * R + 3) % 1461 / 4
year_sum R = omega arith

year : (R : ℕ) → R ≤ 36524 → YearDay R ((4 * R + 3) / 1461) ((4 * R + 3) % 1461 / 4)
year R h = let s = year_sum R in omega arith

-- the leap years up to the year 100 C + Z
quarter : (C Z : ℕ) → (100 * C + Z) / 4 ≡ 25 * C + Z / 4
quarter C Z = omega arith

hundredth : (C Z : ℕ) → Z ≤ 99 → (100 * C + Z) / 100 ≡ C
hundredth C Z h = omega arith

leaps_sum : (L C A B D F : ℕ) → L + B ≡ A + D + 1 → A ≡ 25 * C + F → B ≡ C → L ≡ 24 * C + F + D + 1
leaps_sum L C A B D F p q r = omega arith

leaps_century : (C Z : ℕ) → Z ≤ 99 → leaps (100 * C + Z + 1) ≡ 24 * C + Z / 4 + C / 4 + 1
leaps_century C Z h =
    leaps_sum _ C _ _ _ _ (leaps_next (100 * C + Z)) (quarter C Z) (hundredth C Z h)
    ∙ ap (λ c. 24 * C + Z / 4 + c / 4 + 1) (hundredth C Z h)

-- a year with a day 365 after its 1 March ends with a 29 February
by_4 : (C Z : ℕ) → Z % 4 ≡ 3 → (100 * C + Z + 1) % 4 ≡ 0
by_4 C Z h = omega arith

no_100 : (C Z : ℕ) → Z < 99 → (100 * C + Z + 1) % 100 ≡ 0 → ⊥
no_100 C Z h k = omega arith

by_400 : (C : ℕ) → C % 4 ≡ 3 → (100 * C + 99 + 1) % 400 ≡ 0
by_400 C h = omega arith

leap_end : (C Z : ℕ) → Z ≤ 99 → Z % 4 ≡ 3 → (Z ≡ 99 → C % 4 ≡ 3) → leap_day (100 * C + Z + 1) ≡ 1
leap_end C Z h f g = leap_is_one (100 * C + Z + 1) (by_4 C Z f) (λ k. go (dec_lt Z 99) k)
  where
    go : Dec (Z < 99) → (100 * C + Z + 1) % 100 ≡ 0 → (100 * C + Z + 1) % 400 ≡ 0
    go (yes p) k = absurd (no_100 C Z p k)
    go (no p) k =
        let e : Z ≡ 99 = omega arith in
        subst (λ Z. (100 * C + Z + 1) % 400 ≡ 0) (sym e) (by_400 C (g e))

-- the day k after 1 March of the year 100 C + Z has the number n
record AfterMarch (n C Z k : ℕ) : Type 0 where
  sum : n ≡ 365 * (100 * C + Z) + leaps (100 * C + Z + 1) + 59 + k
  short : k < 365 + leap_day (100 * C + Z + 1)

march_sum :
    (n z C R Z k L F G : ℕ) → n ≡ z + 60 → z ≡ 36524 * C + G + R → R ≡ 365 * Z + F + k → L ≡ 24 * C + F + G + 1 →
    n ≡ 365 * (100 * C + Z) + L + 59 + k
march_sum n z C R Z k L F G a b c d = omega arith

after_march : (n z C R Z k : ℕ) → n ≡ z + 60 → CenturyDay z C R → YearDay R Z k → AfterMarch n C Z k
after_march n z C R Z k e c y =
    record {
      sum = march_sum n z C R Z k _ _ _ e c.sum y.sum (leaps_century C Z y.most);
      short =
          by_contra _ _
          (λ h. let full : k ≡ 365 = omega (arith, y.days) in
          omega (arith, leap_end C Z y.most (y.full full) (λ p. c.full (y.last full p))));
    }

-- the months from March to December
abbrev MonthRow : ℕ → ℕ → Type 0
MonthRow l m =
    (k D : ℕ) → 153 * m ≤ 5 * k + 461 → 5 * k + 461 < 153 * (m + 1) → 5 * D ≤ 5 * k + 461 - 153 * m →
    5 * k + 461 - 153 * m < 5 * (D + 1) → (59 + l + k ≡ before l m + D) × (D + 1 ≤ month_days l m)

row : (l m : ℕ) → 3 ≤ m → m ≤ 12 → MonthRow l m
unfolding before month_days
row l m lo hi =
    subst (MonthRow l) (omega arith) (up_to (λ i. MonthRow l (i + 2)) 10 rows (m - 2) (omega arith) (omega arith))
  where
    rows : UpTo (λ i. MonthRow l (i + 2)) 10
    rows = (((((omega arith, omega arith), omega arith), omega arith), omega arith), omega arith)

-- January and February, in the year after
abbrev MonthRow' : ℕ → ℕ → Type 0
MonthRow' l m =
    (k D : ℕ) → k < 365 + l → 153 * (m + 12) ≤ 5 * k + 461 → 5 * k + 461 < 153 * (m + 13) →
    5 * D ≤ 5 * k + 461 - 153 * (m + 12) → 5 * k + 461 - 153 * (m + 12) < 5 * (D + 1) →
    (k ≡ 306 + before l m + D) × (D + 1 ≤ month_days l m)

row' : (l m : ℕ) → l ≤ 1 → 1 ≤ m → m ≤ 2 → MonthRow' l m
unfolding before month_days
row' l m h = up_to (MonthRow' l) 2 (omega arith) m

first_sum : (y S S' l b k n D : ℕ) → S' ≡ S + 365 + l → n + 306 ≡ S' + k → 59 + l + k ≡ b + D → S + b + (D + 1 - 1) ≡ n
first_sum y S S' l b k n D p q r = omega arith

second_sum : (S b k n D : ℕ) → n + 306 ≡ S + k → k ≡ 306 + b + D → S + b + (D + 1 - 1) ≡ n
second_sum S b k n D p q = omega arith

-- 306 days before 1 March of the next year is 1 March
start_sum : (n C Z k : ℕ) → AfterMarch n C Z k → n + 306 ≡ start (100 * C + Z + 1) + k
unfolding start
start_sum n C Z k w = omega (arith, w.sum)

pub valid_date : (y m D : ℕ) → 1 ≤ m → m ≤ 12 → D + 1 ≤ month_days (leap_day y) m → Valid y m (D + 1)
valid_date y m D lo hi h = record { month_low = lo; month_high = hi; day_low = omega arith; day_high = h }

module _ (n C Z k : ℕ) (w : AfterMarch (cycle + n) C Z k) where
  from_march_lem : k < 306 → date_after n ≡ public (100 * C + Z) ((5 * k + 461) / 153) ((5 * k + 461) % 153 / 5 + 1)
  unfolding day_number
  from_march_lem h =
      let y = 100 * C + Z in
      let m = (5 * k + 461) / 153 in
      let D = (5 * k + 461) % 153 / 5 in
      let r = row (leap_day y) m (omega arith) (omega arith) k D (omega arith) (omega arith) (omega arith) (omega arith) in
      found n y m (D + 1) (valid_date y m D (omega arith) (omega arith) r.1)
      (first_sum y _ _ _ _ k _ D (start_step y) (start_sum _ C Z k w) r.0)

  from_january : k ≤ 365 → 306 ≤ k → date_after n ≡ public (100 * C + Z + 1) ((5 * k + 461) / 153 - 12) ((5 * k + 461) % 153 / 5 + 1)
  unfolding day_number
  from_january b h =
      let y = 100 * C + Z + 1 in
      let m = (5 * k + 461) / 153 - 12 in
      let D = (5 * k + 461) % 153 / 5 in
      let r = row' (leap_day y) m (leap_le y) (omega arith) (omega arith) k D w.short (omega arith) (omega arith) (omega arith) (omega arith) in
      found n y m (D + 1) (valid_date y m D (omega arith) (omega arith) r.1)
      (second_sum _ _ k _ D (start_sum _ C Z k w) r.0)

  from_either :
      k ≤ 365 → date_after n ≡ public (100 * C + Z + new_year k) ((5 * k + 461) / 153 - 12 * new_year k) ((5 * k + 461) % 153 / 5 + 1)
  from_either b = go (leb 306 k) refl
    where
      go : (t : Bool) → leb 306 k ≡ t →
          date_after n ≡ public (100 * C + Z + bool_byte t) ((5 * k + 461) / 153 - 12 * bool_byte t) ((5 * k + 461) % 153 / 5 + 1)
      go true e = from_january b (leb-true 306 k e)
      go false e = rw (add-zero, sub-zero) (from_march_lem (leb-false 306 k e))

-- the algorithm's century, its day and so on, of the day n after the first
abbrev pub century_of : ℕ → ℕ
century_of n = (4 * (n + first_from_march) + 3) / cycle

abbrev pub day_of_century : ℕ → ℕ
day_of_century n = (4 * (n + first_from_march) + 3) % cycle / 4

abbrev pub year_of_century : ℕ → ℕ
year_of_century n = (4 * day_of_century n + 3) / 1461

abbrev pub day_of_march_year : ℕ → ℕ
day_of_march_year n = (4 * day_of_century n + 3) % 1461 / 4

from_cycle : (n : ℕ) → cycle + n ≡ n + first_from_march + 60
from_cycle n = omega arith

pub algorithm_3 :
    (n : ℕ) →
    date_after n
    ≡ public (100 * century_of n + year_of_century n + new_year (day_of_march_year n)) ((5 * day_of_march_year n + 461) / 153 - 12 * new_year (day_of_march_year n))
    ((5 * day_of_march_year n + 461) % 153 / 5 + 1)
algorithm_3 n =
    let c = century (n + first_from_march) in
    let y = year (day_of_century n) c.most in
    from_either n (century_of n) (year_of_century n) (day_of_march_year n)
    (after_march (cycle + n) (n + first_from_march) _ _ _ _ (from_cycle n) c y) y.days
