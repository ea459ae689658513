-- A year as a century and a year of it, and the answer to a date whose year is not below zero, in natural numbers.
use Prim.Native.Nat.{ℕ, ◌+◌, ◌-◌, ◌*◌, ◌/◌, ◌%◌, ◌≤◌, ◌<◌}
use mathlib.Core.Path.{◌≡◌, refl, sym, ap, ◌∙◌}
use mathlib.Core.Bool.{Bool, true, false, cond}
use native.Mathlib.Decide.{ℕ_discrete}
use native.Mathlib.Nat.{zero-add}
use native.Mathlib.Omega.{arith}
use lib.Dec.{eqb}
use lib.IntN.{ℤ, pos, ◌+ℤ◌, +ℤ_assoc}
use borrow.Author.Tests.{eqb-true, eqb-false}
use mir.Val.{bool_byte}
use Rattle.refusal.specs.Outcome.{value, refused}
use Rattle.numbers.specs.Range.{outside, since}
use Rattle.numbers.proofs.Between.{inside_pos, outside_pos, inside_from}
use Rattle.calendar.specs.Range.{first_year, last_year}
use Rattle.calendar.specs.Gregorian.{month_length, date_of}
use Rattle.calendar.specs.Count.{count_of_date}
use Rattle.calendar.specs.Answers.{of_date, days_answer}
use Rattle.calendar.specs.Closed.{cycle_years, cycle, base_year, base_count, from_year, to_year, leapℕ, leap_day, leaps, start, month_days, Valid, day_number}
use Rattle.calendar.proofs.Leap.{leap_is_one, leap_is_zero, leaps_step, leaps_next}
use Rattle.calendar.proofs.Months.{length_public}
use Rattle.calendar.proofs.Tests.{day_decides}
use Rattle.calendar.proofs.Dates.{count_base}

-- what a whole century leaves of 400 years
century_rest : (c y : ℕ) → y ≡ 0 → (100 * c + y) % 400 ≡ 100 * (c % 4)
century_rest c y h = omega arith

-- a year is leap exactly if 4 divides n: its year of the century, or the century where that year is 0
pub century_leap :
    (c y n : ℕ) → y < 100 → (y ≡ 0 → n ≡ c) → ((y ≡ 0 → ⊥) → n ≡ y) → bool_byte (eqb (n % 4) 0) ≡ leap_day (100 * c + y)
century_leap c y n h by-century by_year = go (ℕ_discrete y 0) (eqb (n % 4) 0) refl
  where
    go : Dec (y ≡ 0) → (t : Bool) → eqb (n % 4) 0 ≡ t → bool_byte t ≡ leap_day (100 * c + y)
    go (yes z) true e =
        let p = ap (λ n. n % 4) (sym (by-century z)) ∙ eqb-true (n % 4) 0 e in
        sym (leap_is_one (100 * c + y) (omega arith) (λ k. omega (arith, century_rest c y z)))
    go (yes z) false e =
        let p = ap (λ n. n % 4) (by-century z) in
        let q = eqb-false (n % 4) 0 e in
        sym (leap_is_zero (100 * c + y) (λ k. (omega arith, λ i. omega (arith, century_rest c y z))))
    go (no z) true e =
        let p = ap (λ n. n % 4) (sym (by_year z)) ∙ eqb-true (n % 4) 0 e in
        sym (leap_is_one (100 * c + y) (omega arith) (λ k. omega arith))
    go (no z) false e =
        let p = ap (λ n. n % 4) (by_year z) in
        let q = eqb-false (n % 4) 0 e in
        sym (leap_is_zero (100 * c + y) (λ k. absurd (omega arith)))

-- how many leap years there are up to a year of a century, the year 0 among them
leaps_of : (c y : ℕ) → y < 100 → leaps (100 * c + y) + leap_day (100 * c + y) ≡ 24 * c + c / 4 + y / 4 + 1
leaps_of c y h =
    let q : (100 * c + y) / 100 ≡ c = omega arith in
    let r : (100 * c + y) / 4 ≡ 25 * c + y / 4 = omega arith in
    omega (arith, ap (λ q. q / 4) q, leaps_step (100 * c + y), leaps_next (100 * c + y))

-- when a year begins: a quarter of the cycle for each century and of 1461 days for each year, rounded down, and 1 in a common year
pub century_start : (c y : ℕ) → y < 100 → cycle * c / 4 + 1461 * y / 4 + 1 ≡ start (100 * c + y) + leap_day (100 * c + y)
unfolding start
century_start c y h = omega (arith, leaps_of c y h)

-- after k cycles the same years are leap
leap_again : (k y : ℕ) → leap_day (k * cycle_years + y) ≡ leap_day y
unfolding leap_day leapℕ
leap_again k y =
    let p : (k * cycle_years + y) % 4 ≡ y % 4 = omega arith in
    let q : (k * cycle_years + y) % 100 ≡ y % 100 = omega arith in
    let r : (k * cycle_years + y) % 400 ≡ y % 400 = omega arith in
    simp (p, q, r)

-- each cycle has 97 leap years
leaps_again : (k y : ℕ) → leaps (k * cycle_years + y) ≡ 97 * k + leaps y
unfolding leaps
leaps_again k y = sum _ _ _ _ _ _ (omega arith) (omega arith) (omega arith) (omega arith)
  where
    sum : (A B C a b c : ℕ) → A ≡ 100 * k + a → B ≡ k + b → C ≡ 4 * k + c → c ≤ a → A + B - C ≡ 97 * k + (a + b - c)
    sum A B C a b c p q r h = omega arith

-- a date's number after k cycles is their days more
pub number_again : (k y m d : ℕ) → day_number (k * cycle_years + y) m d ≡ k * cycle + day_number y m d
unfolding day_number start
number_again k y m d = rw (leap_again k y) (omega (arith, leaps_again k y))

-- a date is a date again after k cycles
pub valid_again : (k y m d : ℕ) → Valid y m d → Valid (k * cycle_years + y) m d
valid_again k y m d v =
    record {
      month_low = v.month_low;
      month_high = v.month_high;
      day_low = v.day_low;
      day_high = rw (leap_again k y) v.day_high;
    }

-- the year 0, counted from base_year in years and in cycles, and the count of its first day
abbrev pub year_zero : ℕ
year_zero = since base_year (pos 0)

abbrev cycles_to_zero : ℕ
cycles_to_zero = year_zero / cycle_years

abbrev pub count_zero : ℤ
count_zero = base_count +ℤ pos (cycles_to_zero * cycle)

-- a date whose year is not below zero, and not above the last
module _ (y m d : ℕ) (h : year_zero + y ≤ to_year) where
  -- its year, counted from base_year
  year_is : base_year +ℤ pos (year_zero + y) ≡ pos y
  year_is = sym (+ℤ_assoc base_year (pos year_zero) (pos y)) ∙ ap pos (zero-add y)

  -- its year is one of the range
  year_inside : outside first_year last_year (pos y) ≡ false
  year_inside = ap (outside first_year last_year) (sym year_is) ∙ inside_from base_year from_year to_year (year_zero + y) (omega arith) h

  -- its month has the length of the closed form
  length_is : 1 ≤ m → m ≤ 12 → month_length (pos y) (pos m) ≡ pos (month_days (leap_day y) m)
  length_is lo hi =
      ap (λ z. month_length z (pos m)) (sym year_is) ∙ length_public (year_zero + y) m lo hi
      ∙ ap (λ l. pos (month_days l m)) (leap_again cycles_to_zero y)

  -- its count is that of the first day of the year 0 and its number
  count_is : Valid y m d → count_of_date (date_of (pos y) (pos m) (pos d)) ≡ count_zero +ℤ pos (day_number y m d)
  count_is v =
      ap (λ z. count_of_date (date_of z (pos m) (pos d))) (sym year_is)
      ∙ sym (count_base (year_zero + y) m d (record { is_valid = valid_again cycles_to_zero y m d v; from = omega arith; to = h }))
      ∙ ap (λ n. base_count +ℤ pos n) (number_again cycles_to_zero y m d)
      ∙ sym (+ℤ_assoc base_count (pos (cycles_to_zero * cycle)) (pos (day_number y m d)))

  -- it is refused with 2 where the month is none of the twelve
  pub month_refuses : (1 ≤ m → m ≤ 12 → ⊥) → refused 2 ≡ days_answer (pos y) (pos m) (pos d)
  unfolding days_answer of_date
  month_refuses none = rw (year_inside, outside_pos 1 12 m none)

  -- after the month the day decides
  by_day :
      1 ≤ m → m ≤ 12 → {t : Bool} → outside (pos 1) (pos (month_days (leap_day y) m)) (pos d) ≡ t →
      cond t (refused 3) (value (count_of_date (date_of (pos y) (pos m) (pos d)))) ≡ days_answer (pos y) (pos m) (pos d)
  unfolding days_answer
  by_day lo hi e =
      sym
      (day_decides (pos y) (pos m) (pos d) (λ d. value (count_of_date d)) year_inside (inside_pos 1 12 m lo hi)
      ∙ ap (λ t. cond t (refused 3) (value (count_of_date (date_of (pos y) (pos m) (pos d))))) (ap (λ l. outside (pos 1) l (pos d)) (length_is lo hi) ∙ e))

  -- it is refused with 3 where the month has no such day
  pub day_refuses : 1 ≤ m → m ≤ 12 → (1 ≤ d → d ≤ month_days (leap_day y) m → ⊥) → refused 3 ≡ days_answer (pos y) (pos m) (pos d)
  day_refuses lo hi none = by_day lo hi (outside_pos 1 (month_days (leap_day y) m) d none)

  -- else it is answered with its count
  pub valid_days : Valid y m d → value (count_zero +ℤ pos (day_number y m d)) ≡ days_answer (pos y) (pos m) (pos d)
  valid_days v =
      ap value (sym (count_is v))
      ∙ by_day v.month_low v.month_high (inside_pos 1 (month_days (leap_day y) m) d v.day_low v.day_high)
