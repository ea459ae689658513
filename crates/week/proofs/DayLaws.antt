-- Theorems of the days that week dates are defined over: the step back is undone by the next day, each count is the next day of the one
-- before it, and 4 January lies in week 1 of its year.
use Prim.Native.Nat.{ℕ, zero, suc, ◌+◌, ◌-◌, ◌/◌, ◌≤◌, ◌<◌}
use mathlib.Core.Path.{◌≡◌, refl, sym, ap, ap₂, ◌∙◌, subst}
use mathlib.Core.Bool.{Bool, true, false, cond}
use native.Mathlib.Decide.{dec_lt}
use native.Mathlib.Numerals.{add-one}
use native.Mathlib.Omega.{arith}
use lib.IntN.{ℤ, pos, nat_abs, ◌+ℤ◌, ◌-ℤ◌, +ℤ_assoc, -ℤ-+ℤ_cancel}
use lib.ListN.{get_or, take}
use lib.Signed.{lt_z}
use borrow.Author.Tests.{lt-ltb, le-ltb}
use Rattle.refusal.specs.Outcome.{value, refused}
use Rattle.numbers.specs.Range.{outside}
use Rattle.numbers.proofs.Between.{natural_within, inside_pos}
use Rattle.numbers.proofs.Integers.{above, below, not_below, since_add, outside_no, wider}
use Rattle.calendar.specs.Range.{first_year, last_year, first_count, last_count}
use Rattle.calendar.specs.declared.Date.{Date}
use Rattle.calendar.specs.Gregorian.{leap_year, month_lengths, month_length, date_of, next_day, first_date, date_after}
use Rattle.calendar.specs.Count.{date_of_count, weekday, sum, day_of_year}
use Rattle.calendar.specs.Answers.{days_answer}
use Rattle.calendar.proofs.Months.{each_month}
use Rattle.calendar.proofs.Dates.{days_inside}
use Rattle.calendar.proofs.Laws.{date_of_days, date_of_count_is_valid}
use Rattle.week.specs.Days.{last_of, previous_day, date_before, date_on}
use Rattle.week.specs.Week.{week_date, week_date_of}
use Rattle.week.specs.Answers.{week_answer, first_week_year, last_week_year}
use Rattle.week.specs.Order.{RightDate}
use Rattle.week.specs.Closed.{base_count, first_day, InYear}
use Rattle.week.proofs.Years.{thursday_at, first_day_step}
use Rattle.week.proofs.Dates.{pos_less, on_day}
use Rattle.week.proofs.Weeks.{weekday_at, week_date_at}
use Rattle.week.proofs.Before.{date_before_lem, before_base, not_after_base}

-- the length of month m, which has a day
length : (y : ℤ) (m : ℕ) → ℕ
length y m = get_or (month_lengths (leap_year y)) (m - 1) 0

length_is : (y : ℤ) (m : ℕ) → month_length y (pos m) ≡ pos (length y m)
unfolding month_length length
length_is y m = refl

has_day_lem : (y : ℤ) (m : ℕ) → 1 ≤ m → m ≤ 12 → 1 ≤ length y m
unfolding length month_lengths
has_day_lem y = by_leap (leap_year y)
  where
    by_leap : (l : Bool) (m : ℕ) → 1 ≤ m → m ≤ 12 → 1 ≤ get_or (month_lengths l) (m - 1) 0
    by_leap true = each_month (λ m. 1 ≤ get_or (month_lengths true) (m - 1) 0) (omega arith)
    by_leap false = each_month (λ m. 1 ≤ get_or (month_lengths false) (m - 1) 0) (omega arith)

-- such a date in natural numbers
right : (y : ℤ) (m k : ℕ) → 1 ≤ m → m ≤ 12 → 1 ≤ k → k ≤ length y m → RightDate (date_of y (pos m) (pos k))
right y m k a b c d =
    record { month_inside = inside_pos 1 12 m a b; day_inside = ap (λ (l : ℤ). outside (pos 1) l (pos k)) (length_is y m) ∙ inside_pos 1 (length y m) k c d }

-- what is shown of a day and the day before it
record Step (y : ℤ) (m k : ℕ) : Type 0 where
  there : RightDate (previous_day (date_of y (pos m) (pos k)))
  back : next_day (previous_day (date_of y (pos m) (pos k))) ≡ date_of y (pos m) (pos k)

module _ (y : ℤ) where
  in_month : (m k : ℕ) → 1 ≤ m → m ≤ 12 → 1 < k → k ≤ length y m → Step y m k
  unfolding previous_day next_day
  in_month m k a b c d =
      let e : previous_day (date_of y (pos m) (pos k)) ≡ date_of y (pos m) (pos (k - 1)) = rw (lt-ltb 1 k c) (ap (date_of y (pos m)) (pos_less k (omega arith))) in
      let f : k - 1 + 1 ≡ k = omega arith in
      record {
        there = subst RightDate (sym e) (right y m (k - 1) a b (omega arith) (omega arith));
        back = ap next_day e ∙ rw (length_is y m, lt-ltb (k - 1) (length y m) (omega arith)) (ap (λ k. date_of y (pos m) (pos k)) f);
      }

  in_year : (m k : ℕ) → 1 < m → m ≤ 12 → k ≡ 1 → Step y m k
  unfolding previous_day next_day
  in_year m k a b c =
      let e : previous_day (date_of y (pos m) (pos k)) ≡ date_of y (pos (m - 1)) (pos (length y (m - 1))) =
      rw (le-ltb 1 k (omega arith), lt-ltb 1 m a) (ap (last_of y) (pos_less m (omega arith)) ∙ ap (date_of y (pos (m - 1))) (length_is y (m - 1))) in
      let f : m - 1 + 1 ≡ m = omega arith in
      let l = length y (m - 1) in
      record {
        there = subst RightDate (sym e) (right y (m - 1) l (omega arith) (omega arith) (has_day_lem y (m - 1) (omega arith) (omega arith)) (omega arith));
        back = ap next_day e ∙ rw (length_is y (m - 1), le-ltb l l (omega arith), lt-ltb (m - 1) 12 (omega arith)) (ap₂ (λ m k. date_of y (pos m) (pos k)) f (sym c));
      }

  of_years : (m k : ℕ) → m ≡ 1 → k ≡ 1 → Step y m k
  unfolding previous_day next_day
  of_years m k a c =
      let e : previous_day (date_of y (pos m) (pos k)) ≡ date_of (y -ℤ pos 1) (pos 12) (pos (length (y -ℤ pos 1) 12)) =
      rw (le-ltb 1 k (omega arith), le-ltb 1 m (omega arith)) (ap (date_of (y -ℤ pos 1) (pos 12)) (length_is (y -ℤ pos 1) 12)) in
      let l = length (y -ℤ pos 1) 12 in
      record {
        there = subst RightDate (sym e) (right (y -ℤ pos 1) 12 l (omega arith) (omega arith) (has_day_lem (y -ℤ pos 1) 12 (omega arith) (omega arith)) (omega arith));
        back =
            ap next_day e
            ∙ rw (length_is (y -ℤ pos 1) 12, le-ltb l l (omega arith))
            (ap (λ (y : ℤ). date_of y (pos 1) (pos 1)) (-ℤ-+ℤ_cancel y (pos 1)) ∙ ap₂ (λ m k. date_of y (pos m) (pos k)) (sym a) (sym c));
      }

  step : (m k : ℕ) → 1 ≤ m → m ≤ 12 → 1 ≤ k → k ≤ length y m → Step y m k
  step m k a b c d = by_day (dec_lt 1 k) (dec_lt 1 m)
    where
      by_day : Dec (1 < k) → Dec (1 < m) → Step y m k
      by_day (yes p) q = in_month m k a b p d
      by_day (no p) (yes q) = in_year m k q b (omega arith)
      by_day (no p) (no q) = of_years m k (omega arith) (omega arith)

step_of : (d : Date) → RightDate d → RightDate (previous_day d) × (next_day (previous_day d) ≡ d)
step_of d r =
    let m = natural_within 1 (pos 12) d.month r.month_inside in
    let e = ap (month_length d.year) m.is ∙ length_is d.year (nat_abs d.month) in
    let k = natural_within 1 (pos (length d.year (nat_abs d.month))) d.day (ap (λ (l : ℤ). outside (pos 1) l d.day) (sym e) ∙ r.day_inside) in
    let s = step d.year (nat_abs d.month) (nat_abs d.day) m.low m.high k.low k.high in
    let f : d ≡ date_of d.year (pos (nat_abs d.month)) (pos (nat_abs d.day)) = λ i. date_of d.year (m.is i) (k.is i) in
    subst (λ (d : Date). RightDate (previous_day d) × (next_day (previous_day d) ≡ d)) (sym f) (s.there, s.back)

-- the day before is the one whose next day is the day
pub next_of_previous : (d : Date) → RightDate d → next_day (previous_day d) ≡ d
next_of_previous d r = (step_of d r).1

right_before : (n : ℕ) → RightDate (date_before n)
unfolding date_before length leap_year month_lengths
right_before zero = right first_date.year 1 1 (omega arith) (omega arith) (omega arith) (omega arith)
right_before (suc n) = (step_of (date_before n) (right_before n)).0

-- the next count is the next day, in the range or not
before_first : (n : ℕ) (z : ℤ) → first_count ≡ z +ℤ pos (suc n) → date_on (z +ℤ pos 1) ≡ date_before n
unfolding date_on date_of_count date_after date_before
before_first zero z e = ap date_on (sym e)
before_first (suc n) z e =
    let k : 1 + suc n ≡ suc (suc n) = omega arith in
    date_before_lem (z +ℤ pos 1) n (+ℤ_assoc z (pos 1) (pos (suc n)) ∙ ap (λ n. z +ℤ pos n) k ∙ sym e)

from_first : (n : ℕ) → date_on (first_count +ℤ pos n) ≡ date_after n
unfolding date_on date_of_count
from_first n = rw (not_below first_count n) (ap date_after (since_add first_count n))

pub next_date : (z : ℤ) → date_on (z +ℤ pos 1) ≡ next_day (date_on z)
unfolding date_after date_before
next_date z = go (lt_z z first_count) refl
  where
    go : (t : Bool) → lt_z z first_count ≡ t → date_on (z +ℤ pos 1) ≡ next_day (date_on z)
    go true h =
        let b = below z first_count h in
        before_first b.0 z b.1 ∙ sym (ap next_day (date_before_lem z b.0 (sym b.1)) ∙ next_of_previous (date_before b.0) (right_before b.0))
    go false h =
        let a = above first_count z h in
        let n = a.0 in
        ap (λ (z : ℤ). date_on (z +ℤ pos 1)) a.1 ∙ ap date_on (+ℤ_assoc first_count (pos n) (pos 1)) ∙ from_first (n + 1) ∙ ap date_after (add-one n)
        ∙ sym (ap next_day (ap date_on a.1 ∙ from_first n))

-- 4 January lies in week 1 of its year
fourth : (n y : ℕ) → n ≡ first_day y + 3 → InYear (thursday_at n) y × ((thursday_at n - first_day y) / 7 + 1 ≡ 1)
fourth n y e = (record { low = omega arith; high = omega (arith, first_day_step y) }, omega arith)

fourth_at : (n : ℕ) → let z = base_count +ℤ pos n in day_of_year (date_on z) ≡ pos 4 → week_date_of z ≡ week_date (date_on z).year (pos 1) (weekday z)
fourth_at n e =
    let o = on_day n in
    let k = ap nat_abs (sym o.day_is ∙ e) in
    let f = fourth n o.year (omega (arith, k, o.in_year.low)) in
    week_date_at n o.year f.0 ∙ (λ i. week_date (sym o.year_is i) (pos (f.1 i)) (sym (weekday_at n) i))

day_four : (d : Date) → d.month ≡ pos 1 → d.day ≡ pos 4 → day_of_year d ≡ pos 4
unfolding day_of_year
day_four d p q = ap₂ (λ (m k : ℤ). pos (sum (take (nat_abs m - 1) (month_lengths (leap_year d.year)))) +ℤ k) p q

pub fourth_of_january :
    (z : ℤ) → outside first_week_year last_week_year (date_on z).year ≡ false → (date_on z).month ≡ pos 1 → (date_on z).day ≡ pos 4 →
    week_date_of z ≡ week_date (date_on z).year (pos 1) (weekday z)
fourth_of_january z h p q = go (lt_z z base_count) refl
  where
    go : (t : Bool) → lt_z z base_count ≡ t → week_date_of z ≡ week_date (date_on z).year (pos 1) (weekday z)
    go true l = not_after_base (date_on z).year (before_base z l) h
    go false l =
        let a = above base_count z l in
        subst (λ (z : ℤ). day_of_year (date_on z) ≡ pos 4 → week_date_of z ≡ week_date (date_on z).year (pos 1) (weekday z)) (sym a.1) (fourth_at a.0)
        (day_four (date_on z) p q)

-- the same of the calls
in_range_lem : (z : ℤ) → outside first_count last_count z ≡ false → date_on z ≡ date_of_count z
unfolding date_on
in_range_lem z h = rw (outside_no first_count last_count z h).0

is_week_year : (year : ℤ) → outside first_year last_year year ≡ false → outside first_week_year last_week_year year ≡ false
is_week_year year = wider first_year last_year first_week_year last_week_year year refl refl

pub week_of_fourth_of_january : (year z : ℤ) → days_answer year (pos 1) (pos 4) ≡ value z → week_answer z ≡ value (week_date year (pos 1) (weekday z))
unfolding week_answer
week_of_fourth_of_january year z e =
    let inside = days_inside year (pos 1) (pos 4) z (sym e) in
    let d = in_range_lem z inside ∙ date_of_days year (pos 1) (pos 4) z e in
    let y = ap (λ (d : Date). outside first_year last_year d.year) (in_range_lem z inside) ∙ (date_of_count_is_valid z inside).year_inside in
    ap (λ t. cond t (refused 4) (value (week_date_of z))) inside
    ∙ ap value
    (fourth_of_january z (is_week_year (date_on z).year y) (ap (λ (d : Date). d.month) d) (ap (λ (d : Date). d.day) d)
    ∙ ap (λ (d : Date). week_date d.year (pos 1) (weekday z)) d)
