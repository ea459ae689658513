-- Week dates by the closed forms: which week a day from the base on lies in.
use Prim.Native.Nat.{ℕ, zero, suc, ◌+◌, ◌-◌, ◌/◌, ◌%◌, ◌≤◌, ◌<◌}
use mathlib.Core.Path.{◌≡◌, refl, sym, ap, ◌∙◌}
use mathlib.Core.Bool.{Bool, true, false, cond}
use native.Mathlib.Numerals.{add-one}
use native.Mathlib.Omega.{arith}
use lib.Dec.{T, eqb, leb, lit≤}
use lib.IntN.{ℤ, pos, negsuc, nat_abs, ◌+ℤ◌, ◌-ℤ◌, +ℤ_assoc}
use borrow.Author.Tests.{eqb-true, eqb-false}
use Rattle.numbers.specs.Floor.{floor_remainder}
use Rattle.numbers.specs.Range.{since}
use Rattle.numbers.proofs.Integers.{on_sub, sub_pos}
use Rattle.calendar.specs.Count.{weekday}
use Rattle.calendar.proofs.Weekdays.{remainder_swap, weekday_between, weekday_after}
use Rattle.week.specs.declared.WeekDate.{WeekDate}
use Rattle.week.specs.Days.{date_on}
use Rattle.week.specs.Week.{thursday, thursday_of, thursdays, thursdays_of_year, week_date, week_date_of}
use Rattle.week.specs.Closed.{base_year, base_count, first_day, InYear}
use Rattle.week.proofs.Years.{thursday_at, one_year}
use Rattle.week.proofs.Dates.{on_day}

-- days since the last Monday
abbrev since_monday : ℤ → ℕ
since_monday z = floor_remainder (z +ℤ pos 3) 7

since_le : (z : ℤ) → since_monday z ≤ 6
unfolding weekday
since_le z = omega (arith, (weekday_between z).1)

day_before : (z : ℤ) → since_monday (z -ℤ pos 1) ≡ (since_monday z + 6) % 7
day_before z = remainder_swap z (negsuc 0) (pos 3)

-- of n days up to z, every seventh is a Thursday, counted back from the last one
pub thursdays_are : (n : ℕ) (z : ℤ) → thursdays n z ≡ (n + 6 - (since_monday z + 4) % 7) / 7
unfolding thursdays weekday
thursdays_are zero z = omega (arith, since_le z)
thursdays_are (suc n) z = go (eqb (since_monday z + 1) 4) refl (thursdays_are n (z -ℤ pos 1))
  where
    go : (t : Bool) → eqb (since_monday z + 1) 4 ≡ t → thursdays n (z -ℤ pos 1) ≡ (n + 6 - (since_monday (z -ℤ pos 1) + 4) % 7) / 7 →
        cond t 1 0 + thursdays n (z -ℤ pos 1) ≡ (suc n + 6 - (since_monday z + 4) % 7) / 7
    go true e before =
        let h = eqb-true (since_monday z + 1) 4 e in
        omega (arith, day_before z)
    go false e before =
        let h = eqb-false (since_monday z + 1) 4 e in
        omega (arith, day_before z, since_le z)

-- the base is a Monday
module _ (n : ℕ) where
  pub weekday_at : weekday (base_count +ℤ pos n) ≡ pos (n % 7 + 1)
  weekday_at = weekday_after base_count n ∙ ap (λ r. pos (r + 1)) (omega arith)

  to_thursday : (r : ℕ) → r ≤ 6 → r ≤ n → pos n +ℤ (thursday -ℤ pos (suc r)) ≡ pos (n + 3 - r)
  to_thursday r h k =
      on_sub (λ (z : ℤ). pos n +ℤ z ≡ pos (n + 3 - r)) 4 (suc r)
      (λ l. sub_pos n (suc (suc r - suc 4)) (omega arith) ∙ ap pos (omega arith))
      (λ l. ap pos (omega arith))

  pub thursday_at_lem : thursday_of (base_count +ℤ pos n) ≡ base_count +ℤ pos (thursday_at n)
  thursday_at_lem =
      ap (λ (d : ℤ). (base_count +ℤ pos n) +ℤ (thursday -ℤ d)) weekday_at
      ∙ +ℤ_assoc base_count (pos n) (thursday -ℤ pos (n % 7 + 1))
      ∙ ap (λ (z : ℤ). base_count +ℤ z) (ap (λ k. pos n +ℤ (thursday -ℤ pos k)) (add-one (n % 7)) ∙ to_thursday (n % 7) (omega arith) (omega arith))

-- the week of a Thursday
module _ (t : ℕ) (h : t % 7 ≡ 3) where
  at_thursday : since_monday (base_count +ℤ pos t) ≡ 3
  unfolding weekday
  at_thursday = omega (arith, ap nat_abs (weekday_at t))

  pub week_at_thursday : thursdays_of_year (base_count +ℤ pos t) ≡ (t - first_day (on_day t).year) / 7 + 1
  week_at_thursday =
      let d = (on_day t).day_is in
      ap (λ (k : ℤ). thursdays (nat_abs k) (base_count +ℤ pos t)) d ∙ thursdays_are _ (base_count +ℤ pos t) ∙ omega (arith, at_thursday)

-- the week date of a day whose Thursday lies in a year
abbrev pub week_at : (n y : ℕ) → WeekDate
week_at n y = week_date (base_year +ℤ pos y) (pos ((thursday_at n - first_day y) / 7 + 1)) (pos (n % 7 + 1))

pub week_date_at : (n y : ℕ) → InYear (thursday_at n) y → week_date_of (base_count +ℤ pos n) ≡ week_at n y
unfolding week_date_of
week_date_at n y i =
    let o = on_day (thursday_at n) in
    let e : o.year ≡ y = one_year (thursday_at n) o.year y o.in_year i in
    let p = ap (λ (z : ℤ). (date_on z).year) (thursday_at_lem n) ∙ o.year_is ∙ ap (λ y. base_year +ℤ pos y) e in
    let q = ap thursdays_of_year (thursday_at_lem n) ∙ week_at_thursday (thursday_at n) (omega arith) ∙ ap (λ y. (thursday_at n - first_day y) / 7 + 1) e in
    λ k. week_date (p k) (pos (q k)) (weekday_at n k)

-- the same of day z, by a computed test of the year
pub week_date_in :
    (z : ℤ) (y : ℕ) → T (leb (first_day y) (thursday_at (since base_count z))) → T (leb (thursday_at (since base_count z) + 1) (first_day (y + 1))) →
    base_count +ℤ pos (since base_count z) ≡ z → week_date_of z ≡ week_at (since base_count z) y
week_date_in z y low high e = ap week_date_of (sym e) ∙ week_date_at (since base_count z) y (record { low = lit≤ low; high = lt (lit≤ high) })
  where
    lt : {a b : ℕ} → a + 1 ≤ b → a < b
    lt h = omega arith
