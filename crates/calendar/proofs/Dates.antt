-- Valid dates and their counts.
use Prim.Native.Nat.{ℕ, ◌+◌, ◌-◌, ◌≤◌}
use mathlib.Core.Path.{◌≡◌, refl, sym, ap, ◌∙◌, subst}
use mathlib.Core.Bool.{Bool, true, false, cond, not}
use native.Mathlib.Omega.{arith}
use lib.IntN.{ℤ, pos, nat_abs, ◌+ℤ◌, +ℤ_assoc, +ℤ_comm}
use borrow.Author.Tests.{not-true, not-false}
use mir.Syntax.{w64}
use mir.Val.{SFits, to_z, of_z}
use mir.Facts.{to_z-of_z, to_z_pos}
use Rattle.refusal.specs.Outcome.{value, refused}
use Rattle.numbers.specs.Range.{outside, since}
use Rattle.numbers.proofs.Integers.{inside, since_add}
use Rattle.numbers.proofs.Between.{natural_within}
use Rattle.numbers.proofs.Based as based
use Rattle.numbers.proofs.Machine.{read, add_first_is}
use Rattle.calendar.specs.declared.Date.{Date}
use Rattle.calendar.specs.Range.{first_year, last_year, first_count, last_count}
use Rattle.calendar.specs.Gregorian.{month_length, date_of, date_after, ValidDate}
use Rattle.calendar.specs.Count.{date_of_count, count_of_date, day_of_year}
use Rattle.calendar.specs.Answers.{of_date, days_answer, day_of_year_answer, civil_answer, add_days_answer}
use Rattle.calendar.specs.declared.checked_date.CheckedDate.{CheckedDate}
use Rattle.calendar.specs.Checked.{public_date, year_answer, month_answer}
use Rattle.calendar.specs.Closed.{base_year, base_count, cycle, last_day, leap_day, month_days, before, Valid, InRange, day_number, public}
use Rattle.calendar.proofs.Leap.{leap_le}
use Rattle.calendar.proofs.Months.{length_le, before_public}
use Rattle.calendar.proofs.DayTests.{accepted_length}
use Rattle.calendar.proofs.Steps.{found, number_in_range, count_after}
use Rattle.calendar.proofs.Tests.{day_decides, accepted_valid, accepted_is, accepted_answer, date_refused, year_passes, month_passes, year_refuses, month_refuses}

-- a date in natural numbers
pub record NaturalDate (date : Date) : Type 0 where
  pub y : ℕ
  pub m : ℕ
  pub d : ℕ
  pub is : date ≡ public y m d
  pub is_valid : Valid y m d
  pub in_range_lem : InRange y m d

pub natural : (d : Date) → ValidDate d → NaturalDate d
natural date v =
    let y = since base_year date.year in
    let m = nat_abs date.month in
    let e = based.is base_year first_year last_year refl refl date.year v.year_inside in
    let mo = natural_within 1 (pos 12) date.month v.month_inside in
    let len = accepted_length date.year date.month y v.month_inside e in
    let da = natural_within 1 (pos (month_days (leap_day y) m)) date.day (ap (λ l. outside (pos 1) l date.day) (sym len) ∙ v.day_inside) in
    let w : Valid y m (nat_abs date.day) = record { month_low = mo.low; month_high = mo.high; day_low = da.low; day_high = da.high } in
    record {
      y = y;
      m = m;
      d = nat_abs date.day;
      is = (λ i. record { year = sym e i; month = mo.is i; day = da.is i });
      is_valid = w;
      in_range_lem =
          record {
            is_valid = w;
            from = based.from base_year first_year last_year refl refl date.year v.year_inside;
            to = based.to base_year first_year last_year refl refl date.year v.year_inside;
          };
    }

pub day_small : (y m d : ℕ) → Valid y m d → d ≤ 31
day_small y m d v = let l = length_le (leap_day y) m (leap_le y) v.month_low v.month_high in omega (arith, v.day_high)

-- the count and the day of the year of a date in natural numbers
module _ (y m d : ℕ) (r : InRange y m d) where
  pub offset : ℕ
  offset = day_number y m d - cycle

  pub offset_le : offset ≤ last_day
  unfolding offset
  offset_le = omega (arith, (number_in_range y m d r).1)

  offset_is : day_number y m d ≡ cycle + offset
  unfolding offset
  offset_is = omega (arith, (number_in_range y m d r).0)

  pub date_is : date_after offset ≡ public y m d
  date_is = found offset y m d r.is_valid offset_is

  pub count_is : count_of_date (public y m d) ≡ first_count +ℤ pos offset
  count_is = ap count_of_date (sym date_is) ∙ count_after offset offset_le

  pub count_base : base_count +ℤ pos (day_number y m d) ≡ count_of_date (public y m d)
  count_base = ap (λ n. base_count +ℤ pos n) offset_is ∙ sym (+ℤ_assoc base_count (pos cycle) (pos offset)) ∙ sym count_is

pub year_day : (y m d : ℕ) → Valid y m d → day_of_year (public y m d) ≡ pos (before (leap_day y) m + d)
unfolding day_of_year
year_day y m d v = ap (λ b. pos (b + d)) (before_public y m v.month_low v.month_high)

-- a valid date is one of the steps
pub record CountedDate (d : Date) : Type 0 where
  pub n : ℕ
  pub small : n ≤ last_day
  pub count_is : count_of_date d ≡ first_count +ℤ pos n
  pub date_is : d ≡ date_after n

pub counted : (d : Date) → ValidDate d → CountedDate d
counted d v =
    let t = natural d v in
    record {
      n = offset t.y t.m t.d t.in_range_lem;
      small = offset_le t.y t.m t.d t.in_range_lem;
      count_is = ap count_of_date t.is ∙ count_is t.y t.m t.d t.in_range_lem;
      date_is = t.is ∙ sym (date_is t.y t.m t.d t.in_range_lem);
    }

pub count_inside : (d : Date) → ValidDate d → outside first_count last_count (count_of_date d) ≡ false
count_inside d v =
    let k = counted d v in
    ap (outside first_count last_count) k.count_is ∙ inside first_count last_count refl k.n k.small

-- a date is refused with its year
pub date_refuses_year :
    (year month day : ℤ) (k : ℕ) → SFits w64 year → refused k ≡ year_answer (to_z w64 (of_z w64 year)) → refused k ≡ of_date year month day value
date_refuses_year year month day k f e = year_refuses year month day value k (e ∙ ap year_answer (to_z-of_z f))

-- what is known of a date whose year and month passed their tests
module _ (year month day : ℤ) (y m : ℕ) (p : outside first_year last_year year ≡ false) (q : outside (pos 1) (pos 12) month ≡ false)
    (e : base_year +ℤ pos y ≡ year) (g : m ≡ nat_abs month) where
  day_tested : {t : Bool} → outside (pos 1) (pos (month_days (leap_day y) m)) day ≡ t → outside (pos 1) (month_length year month) day ≡ t
  day_tested h =
      ap (λ l. outside (pos 1) l day) (accepted_length year month y q e ∙ ap (λ m. pos (month_days (leap_day y) m)) (sym g)) ∙ h

  decided :
      {t : Bool} → outside (pos 1) (month_length year month) day ≡ t →
      of_date year month day value ≡ cond t (refused 3) (value (date_of year month day))
  decided h = day_decides year month day value p q ∙ ap (λ t. cond t (refused 3) (value (date_of year month day))) h

  day_refused : outside (pos 1) (pos (month_days (leap_day y) m)) day ≡ true → refused 3 ≡ of_date year month day value
  day_refused h = sym (decided (day_tested h))

  date_accepted :
      outside (pos 1) (pos (month_days (leap_day y) m)) day ≡ false →
      (value (public y m (nat_abs day)) ≡ of_date year month day value) × InRange y m (nat_abs day)
  unfolding natural
  date_accepted h =
      let n = natural (date_of year month day) (record { year_inside = p; month_inside = q; day_inside = day_tested h }) in
      let s : since base_year year ≡ y = ap (since base_year) (sym e) ∙ since_add base_year y in (
        ap value ((λ i. public (sym s i) (g i) (nat_abs day)) ∙ sym n.is) ∙ sym (decided (day_tested h)),
        subst (λ m. InRange y m (nat_abs day)) (sym g) (subst (λ y. InRange y (nat_abs month) (nat_abs day)) s n.in_range_lem),
      )

-- the numbers that the tests read, and what they answered for them
module _ (year month day : ℤ) (y : ℕ) (fy : SFits w64 year) (fm : SFits w64 month) (e : value y ≡ year_answer (to_z w64 (of_z w64 year))) where
  year_known : (outside first_year last_year year ≡ false) × (base_year +ℤ pos y ≡ year)
  year_known = year_passes year y (e ∙ ap year_answer (to_z-of_z fy))

  -- a date is refused with its month
  pub date_refuses_month : (k : ℕ) → refused k ≡ month_answer (to_z w64 (of_z w64 month)) → refused k ≡ of_date year month day value
  date_refuses_month k h = month_refuses year month day value k year_known.0 (h ∙ ap month_answer (to_z-of_z fm))

  module _ (m : ℕ) (t : Bool) (fd : SFits w64 day) (h : value m ≡ month_answer (to_z w64 (of_z w64 month)))
      (r : t ≡ not (outside (pos 1) (pos (month_days (leap_day y) m)) (to_z w64 (of_z w64 day)))) where
    month_known : (outside (pos 1) (pos 12) month ≡ false) × (m ≡ nat_abs month)
    month_known = month_passes month m (h ∙ ap month_answer (to_z-of_z fm))

    day_known : t ≡ not (outside (pos 1) (pos (month_days (leap_day y) m)) day)
    day_known = r ∙ ap (λ d. not (outside (pos 1) (pos (month_days (leap_day y) m)) d)) (to_z-of_z fd)

    -- and then with its day
    pub date_refuses_day : t ≡ false → refused 3 ≡ of_date year month day value
    date_refuses_day n = day_refused year month day y m year_known.0 month_known.0 year_known.1 month_known.1 (not-false _ (sym day_known ∙ n))

    accepted : t ≡ true → (value (public y m (nat_abs day)) ≡ of_date year month day value) × InRange y m (nat_abs day)
    accepted n = date_accepted year month day y m year_known.0 month_known.0 year_known.1 month_known.1 (not-true _ (sym day_known ∙ n))

    -- or it is accepted, and lies in the range
    pub date_accepts : t ≡ true → value (public y m (nat_abs (to_z w64 (of_z w64 day)))) ≡ of_date year month day value
    date_accepts n = ap (λ d. value (public y m (nat_abs d))) (to_z-of_z fd) ∙ (accepted n).0

    pub date_in_range : t ≡ true → InRange y m (nat_abs (to_z w64 (of_z w64 day)))
    date_in_range n = subst (λ (d : ℤ). InRange y m (nat_abs d)) (sym (to_z-of_z fd)) (accepted n).1

-- what a refused test of a date needs
pub ruleset refused_dates = (date_refuses_year, date_refuses_month, date_refuses_day)

-- the day of a tested date
pub checked_day_small : (c : CheckedDate) → c.day ≤ 31
checked_day_small c = day_small c.year c.month.number c.day c.in_range.is_valid

-- a refused date has no count and no day of the year
pub days_refuses : (year month day : ℤ) (k : ℕ) → refused k ≡ of_date year month day value → refused k ≡ days_answer year month day
unfolding days_answer
days_refuses year month day k e = date_refused year month day (λ d. d) k (λ d. value (count_of_date d)) e

pub day_of_year_refuses : (year month day : ℤ) (k : ℕ) → refused k ≡ of_date year month day value → refused k ≡ day_of_year_answer year month day
unfolding day_of_year_answer
day_of_year_refuses year month day k e = date_refused year month day (λ d. d) k (λ d. value (day_of_year d)) e

-- an accepted one has those of the date that was made of it
module _ (year month day : ℤ) (c : CheckedDate) (e : value (public_date c) ≡ of_date year month day value) where
  answered_as : {B : Type 0} (g : Date → B) → value (g (public_date c)) ≡ of_date year month day (λ d. value (g d))
  answered_as g =
      ap (λ d. value (g d)) (accepted_is year month day (λ d. d) (public_date c) e)
      ∙ sym (accepted_answer year month day (λ d. d) (public_date c) e (λ d. value (g d)))

  pub days_accepts : (s : ℕ) → s ≡ day_number c.year c.month.number c.day → value (read (to_z w64 s +ℤ base_count)) ≡ days_answer year month day
  unfolding days_answer public_date
  days_accepts s p =
      let l = number_in_range c.year c.month.number c.day c.in_range in
      ap value
      (add_first_is base_count s (omega (arith, l.1)) ∙ +ℤ_comm (pos s) base_count ∙ ap (λ n. base_count +ℤ pos n) p
      ∙ count_base c.year c.month.number c.day c.in_range)
      ∙ answered_as count_of_date

  pub day_of_year_accepts :
      (b : ℕ) → b ≡ before (leap_day c.year) c.month.number → b ≤ 335 → value (to_z w64 (b + c.day)) ≡ day_of_year_answer year month day
  unfolding day_of_year_answer public_date
  day_of_year_accepts b p h =
      let l = checked_day_small c in
      ap value (to_z_pos w64 (omega arith) ∙ ap (λ b. pos (b + c.day)) p ∙ sym (year_day c.year c.month.number c.day c.in_range.is_valid))
      ∙ answered_as day_of_year

-- what a date's day of the year needs
pub ruleset day_of_year_rules = (day_of_year_refuses, day_of_year_accepts)

-- shifted dates
module _ (year month day z : ℤ) (h : value z ≡ days_answer year month day) where
  pub days_inside : outside first_count last_count z ≡ false
  unfolding days_answer
  days_inside =
      ap (outside first_count last_count) (accepted_is year month day count_of_date z h)
      ∙ count_inside (date_of year month day) (accepted_valid year month day count_of_date z h)

  pub added : (p : ℤ) → add_days_answer year month day p ≡ civil_answer (z +ℤ p)
  unfolding add_days_answer days_answer
  added p =
      accepted_answer year month day count_of_date z h (λ d. civil_answer (count_of_date d +ℤ p))
      ∙ ap (λ c. civil_answer (c +ℤ p)) (sym (accepted_is year month day count_of_date z h))

  decided_by :
      (p : ℤ) {t : Bool} → outside first_count last_count (z +ℤ p) ≡ t →
      add_days_answer year month day p ≡ cond t (refused 4) (value (date_of_count (z +ℤ p)))
  unfolding civil_answer
  decided_by p h = added p ∙ ap (λ t. cond t (refused 4) (value (date_of_count (z +ℤ p)))) h

  pub added_inside : (p : ℤ) → outside first_count last_count (z +ℤ p) ≡ false → value (date_of_count (z +ℤ p)) ≡ add_days_answer year month day p
  added_inside p h = sym (decided_by p h)

  pub added_outside : (p : ℤ) → outside first_count last_count (z +ℤ p) ≡ true → refused 4 ≡ add_days_answer year month day p
  added_outside p h = sym (decided_by p h)

-- a refused date is not shifted
pub add_refuses : (year month day p : ℤ) (k : ℕ) → refused k ≡ days_answer year month day → refused k ≡ add_days_answer year month day p
unfolding add_days_answer days_answer
add_refuses year month day p k h = date_refused year month day count_of_date k (λ d. civil_answer (count_of_date d +ℤ p)) h
