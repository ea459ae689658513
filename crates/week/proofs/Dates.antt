-- The date of any day: the step back undone by the next day, and the closed forms from the base on.
use Prim.Native.Nat.{ℕ, zero, suc, ◌+◌, ◌-◌, ◌≤◌, ◌<◌}
use mathlib.Core.Path.{◌≡◌, refl, sym, ap, ◌∙◌}
use native.Mathlib.Decide.{dec_lt}
use native.Mathlib.Omega.{arith, by_contra}
use lib.IntN.{ℤ, pos, negsuc, ◌+ℤ◌, ◌-ℤ◌, +ℤ_assoc}
use lib.Dec.{ltb}
use lib.Signed.{lt_z}
use borrow.Author.Tests.{lt-ltb, le-ltb}
use Rattle.numbers.specs.Range.{since}
use Rattle.numbers.proofs.Integers.{sub_pos, since_add, lt_add}
use Rattle.calendar.specs.Range.{first_count}
use Rattle.calendar.specs.Gregorian.{date_of, date_after}
use Rattle.calendar.specs.Count.{date_of_count, day_of_year}
use Rattle.calendar.specs.Closed as calendar
use Rattle.calendar.specs.Closed.{cycle, leap_day, start, month_days, before, Valid, day_number, public}
use Rattle.calendar.specs.declared.Date.{Date}
use Rattle.calendar.proofs.Months.{length_positive, length_public, before_step, before_first, year_end}
use Rattle.calendar.proofs.Order.{start_step, start_monotone, within}
use Rattle.calendar.proofs.Dates.{year_day}
use Rattle.calendar.proofs.Steps.{at}
use Rattle.week.specs.Days.{last_of, previous_day, date_before, date_on}
use Rattle.week.specs.Closed.{leap_year_days, base_year, base_count, first_day, InYear}
use Rattle.week.proofs.Years.{base_start, first_day_start}

-- one less
pub pos_less : (n : ℕ) → 1 ≤ n → pos n -ℤ pos 1 ≡ pos (n - 1)
pos_less n h = sub_pos n 1 h

year_less : (y : ℕ) → 1 ≤ y → (calendar.base_year +ℤ pos y) -ℤ pos 1 ≡ calendar.base_year +ℤ pos (y - 1)
year_less y h = +ℤ_assoc calendar.base_year (pos y) (negsuc 0) ∙ ap (λ (z : ℤ). calendar.base_year +ℤ z) (pos_less y h)

-- the three cases of the day before
in_month : (y m d : ℕ) → 1 < d → previous_day (public y m d) ≡ public y m (d - 1)
unfolding previous_day
in_month y m d h = rw (lt-ltb 1 d h) (ap (date_of (calendar.base_year +ℤ pos y) (pos m)) (pos_less d (omega arith)))

in_year : (y m d : ℕ) → 1 < m → m ≤ 12 → d ≤ 1 → previous_day (public y m d) ≡ public y (m - 1) (month_days (leap_day y) (m - 1))
unfolding previous_day
in_year y m d h k l =
    rw (le-ltb 1 d l, lt-ltb 1 m h)
    (ap (last_of (calendar.base_year +ℤ pos y)) (pos_less m (omega arith))
    ∙ ap (date_of (calendar.base_year +ℤ pos y) (pos (m - 1))) (length_public y (m - 1) (omega arith) (omega arith)))

of_years : (y m d : ℕ) → 1 ≤ y → m ≤ 1 → d ≤ 1 → previous_day (public y m d) ≡ public (y - 1) 12 (month_days (leap_day (y - 1)) 12)
unfolding previous_day
of_years y m d h k l =
    rw (le-ltb 1 d l, le-ltb 1 m k)
    (ap (λ (z : ℤ). last_of z (pos 12)) (year_less y h)
    ∙ ap (date_of (calendar.base_year +ℤ pos (y - 1)) (pos 12)) (length_public (y - 1) 12 (omega arith) (omega arith)))

-- the date n days before the first, in natural numbers
record Back (n : ℕ) : Type 0 where
  year : ℕ
  month : ℕ
  day : ℕ
  is_valid : Valid year month day
  number : day_number year month day + n ≡ cycle
  is : date_before n ≡ public year month day

back_first : Back 0
unfolding date_before date_after
back_first =
    let a = at 0 in
    record { year = a.year; month = a.month; day = a.day; is_valid = a.is_valid; number = omega (arith, a.number); is = a.is }

before_month : (y m d : ℕ) → Valid y m d → 1 < d → Valid y m (d - 1) × (day_number y m (d - 1) + 1 ≡ day_number y m d)
unfolding day_number
before_month y m d v h = (
  record { month_low = v.month_low; month_high = v.month_high; day_low = omega arith; day_high = omega (arith, v.day_high) },
  omega arith,
)

before_year : (y m d : ℕ) → Valid y m d → 1 < m → d ≤ 1 →
    Valid y (m - 1) (month_days (leap_day y) (m - 1)) × (day_number y (m - 1) (month_days (leap_day y) (m - 1)) + 1 ≡ day_number y m d)
unfolding day_number
before_year y m d v h l =
    let e : m - 1 + 1 ≡ m = omega arith in
    let p = length_positive (leap_day y) (m - 1) (omega arith) (omega (arith, v.month_high)) in (
      record { month_low = omega arith; month_high = omega (arith, v.month_high); day_low = p; day_high = omega arith },
      omega (arith, before_step (leap_day y) (m - 1), ap (before (leap_day y)) e, p, v.day_low),
    )

before_years : (y m d : ℕ) → Valid y m d → 1 ≤ y → m ≤ 1 → d ≤ 1 →
    Valid (y - 1) 12 (month_days (leap_day (y - 1)) 12) × (day_number (y - 1) 12 (month_days (leap_day (y - 1)) 12) + 1 ≡ day_number y m d)
unfolding day_number
before_years y m d v h k l =
    let e : y - 1 + 1 ≡ y = omega arith in
    let f : m ≡ 1 = omega (arith, v.month_low) in
    let p = length_positive (leap_day (y - 1)) 12 (omega arith) (omega arith) in (
      record { month_low = omega arith; month_high = omega arith; day_low = p; day_high = omega arith },
      omega (
        arith,
        year_end (leap_day (y - 1)) 12 refl,
        start_step (y - 1),
        ap start e,
        ap (before (leap_day y)) f,
        before_first (leap_day y),
        p,
        v.day_low,
      ),
    )

-- the base year's first day has the number 0
not_first : (y m d : ℕ) → Valid y m d → m ≤ 1 → d ≤ 1 → 1 ≤ day_number y m d → 1 ≤ y
unfolding day_number start calendar.leaps
not_first zero m d v k l h =
    let f : m ≡ 1 = omega (arith, v.month_low) in
    absurd (omega (arith, ap (before (leap_day zero)) f, before_first (leap_day zero)))
not_first (suc y) m d v k l h = omega arith

module _ (n : ℕ) (h : suc n ≤ cycle) (a : Back n) where
  back_to : (y m d : ℕ) → Valid y m d × (day_number y m d + 1 ≡ day_number a.year a.month a.day) →
      previous_day (public a.year a.month a.day) ≡ public y m d → Back (suc n)
  unfolding date_before
  back_to y m d v e =
      record {
        year = y;
        month = m;
        day = d;
        is_valid = v.0;
        number = let k = v.1 in omega (arith, a.number);
        is = ap previous_day a.is ∙ e;
      }

  back_next : Back (suc n)
  back_next = by_day (dec_lt 1 a.day)
    where
      by_month : a.day ≤ 1 → Dec (1 < a.month) → Back (suc n)
      by_month l (yes k) =
          back_to _ _ _ (before_year a.year a.month a.day a.is_valid k l)
          (in_year a.year a.month a.day k a.is_valid.month_high l)
      by_month l (no k) =
          let f = not_first a.year a.month a.day a.is_valid (omega arith) l (omega (arith, a.number)) in
          back_to _ _ _ (before_years a.year a.month a.day a.is_valid f (omega arith) l)
          (of_years a.year a.month a.day f (omega arith) l)

      by_day : Dec (1 < a.day) → Back (suc n)
      by_day (yes l) = back_to _ _ _ (before_month a.year a.month a.day a.is_valid l) (in_month a.year a.month a.day l)
      by_day (no l) = by_month (omega arith) (dec_lt 1 a.month)

back : (n : ℕ) → n ≤ cycle → Back n
back zero h = back_first
back (suc n) h = back_next n h (back n (omega arith))

-- the date of a day from the calendar's base on, in natural numbers
record At (n : ℕ) : Type 0 where
  year : ℕ
  month : ℕ
  day : ℕ
  is_valid : Valid year month day
  number : day_number year month day ≡ n
  is : date_on (calendar.base_count +ℤ pos n) ≡ public year month day

-- whether it lies before the first
is_before : (n : ℕ) → lt_z (calendar.base_count +ℤ pos n) first_count ≡ ltb n cycle
is_before n = lt_add calendar.base_count n cycle

-- how far two numbers from the same first one are apart
since_between : (first : ℤ) (m n : ℕ) → m ≤ n → since (first +ℤ pos m) (first +ℤ pos n) ≡ n - m
since_between first m n h =
    ap (since (first +ℤ pos m)) (ap (λ n. first +ℤ pos n) (omega arith) ∙ sym (+ℤ_assoc first (pos m) (pos (n - m)))) ∙ since_add (first +ℤ pos m) (n - m)

at_day : (n : ℕ) → At n
unfolding date_on date_of_count
at_day n = go (dec_lt n cycle)
  where
    go : Dec (n < cycle) → At n
    go (yes h) =
        let b = back (cycle - n) (omega arith) in
        let e : since (calendar.base_count +ℤ pos n) first_count ≡ cycle - n = since_between calendar.base_count n cycle (omega arith) in
        record {
          year = b.year;
          month = b.month;
          day = b.day;
          is_valid = b.is_valid;
          number = omega (arith, b.number);
          is = rw (is_before n, lt-ltb n cycle h) (ap date_before e ∙ b.is);
        }
    go (no h) =
        let a = at (n - cycle) in
        let e : since first_count (calendar.base_count +ℤ pos n) ≡ n - cycle = since_between calendar.base_count cycle n (omega arith) in
        record {
          year = a.year;
          month = a.month;
          day = a.day;
          is_valid = a.is_valid;
          number = omega (arith, a.number);
          is = rw (is_before n, le-ltb n cycle (omega arith)) (ap date_after e ∙ a.is);
        }

-- the year and the day of the year of a day from the base on
pub record OnDay (n : ℕ) : Type 0 where
  pub year : ℕ
  pub in_year : InYear n year
  pub year_is : (date_on (base_count +ℤ pos n)).year ≡ base_year +ℤ pos year
  pub day_is : day_of_year (date_on (base_count +ℤ pos n)) ≡ pos (n - first_day year + 1)

pub on_day : (n : ℕ) → OnDay n
unfolding day_number
on_day n =
    let a = at_day (leap_year_days + n) in
    let e = sym (ap date_on (+ℤ_assoc calendar.base_count (pos leap_year_days) (pos n))) in
    let w = within a.year a.month a.day a.is_valid in
    let y : 1 ≤ a.year = by_contra _ _ (λ l. omega (arith, a.number, w.1, base_start, start_monotone (a.year + 1) 1 (omega arith))) in
    let s : a.year - 1 + 1 ≡ a.year = omega arith in
    let f : first_day (a.year - 1) + leap_year_days ≡ start a.year = first_day_start (a.year - 1) ∙ ap start s in
    let g : first_day (a.year - 1 + 1) + leap_year_days ≡ start (a.year + 1) = first_day_start (a.year - 1 + 1) ∙ ap (λ y. start (y + 1)) s in
    let k : a.year ≡ 1 + (a.year - 1) = omega arith in
    record {
      year = a.year - 1;
      in_year = record { low = omega (arith, f, w.0, a.number); high = omega (arith, g, w.1, a.number) };
      year_is =
          ap (λ (d : Date). d.year) (sym e ∙ a.is)
          ∙ ap (λ y. calendar.base_year +ℤ pos y) k ∙ sym (+ℤ_assoc calendar.base_year (pos 1) (pos (a.year - 1)));
      day_is =
          ap day_of_year (sym e ∙ a.is) ∙ year_day a.year a.month a.day a.is_valid
          ∙ ap pos (omega (arith, f, w.0, a.number, a.is_valid.day_low));
    }
