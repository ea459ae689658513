-- The answers by the closed forms.
use Prim.Native.Nat.{ℕ, ◌+◌, ◌-◌, ◌*◌, ◌/◌, ◌%◌, ◌≤◌, ◌<◌}
use mathlib.Core.Path.{◌≡◌, refl, sym, ap, ap₂, ◌∙◌, subst}
use mathlib.Core.Bool.{true, false, not}
use borrow.Author.Tests.{not-true, not-false}
use native.Mathlib.Omega.{arith}
use lib.IntN.{ℤ, pos, nat_abs, ◌+ℤ◌, +ℤ_assoc}
use mir.Syntax.{w64}
use mir.Val.{SFits}
use mir.Facts.{to_z-of_z}
use Rattle.refusal.specs.Outcome.{value, refused}
use Rattle.refusal.proofs.Outcomes.{passes, refuses, not_refused, same_value}
use Rattle.numbers.proofs.Based as based
use Rattle.week.specs.Checked.{year_answer}
use Rattle.numbers.specs.Range.{outside, since, Within}
use Rattle.numbers.proofs.Bools.{no_both}
use Rattle.numbers.proofs.Between.{natural_within, inside_pos}
use Rattle.numbers.proofs.Machine.{read}
use Rattle.numbers.proofs.Integers.{add_injective}
use Rattle.week.specs.declared.WeekDate.{WeekDate}
use Rattle.week.specs.Week.{week_date, week_date_of}
use Rattle.week.specs.Answers.{first_week_year, last_week_year, in_range, day_with, look_from, look_through, week_days_answer}
use Rattle.week.specs.Closed.{base_year, base_count, from_year, to_year, first_day, first_monday, weeks, day_of}
use Rattle.week.proofs.Years.{thursday_at, first_day_monotone, first_monday_lem, first_day_of_first, first_day_of_last, by_weeks, HasWeek, WeekDay, day_of_week, week_of_day}
use Rattle.week.proofs.Dates.{on_day}
use Rattle.week.proofs.Weeks.{week_date_at}
use Rattle.week.proofs.Search.{none_has, first_has}

-- a day from the base on that has a week date
pub record Has (n y : ℕ) (week weekday : ℤ) : Type 0 where
  pub w : ℕ
  pub d : ℕ
  pub week_is : week ≡ pos w
  pub weekday_is : weekday ≡ pos d
  pub week_day : WeekDay n y w d

pub has : (n y : ℕ) (week weekday : ℤ) → week_date_of (base_count +ℤ pos n) ≡ week_date (base_year +ℤ pos y) week weekday → Has n y week weekday
has n y week weekday e =
    let o = on_day (thursday_at n) in
    let f = sym (week_date_at n o.year o.in_year) ∙ e in
    let p : o.year ≡ y = add_injective base_year o.year y (ap (λ (d : WeekDate). d.year) f) in
    record {
      w = (thursday_at n - first_day o.year) / 7 + 1;
      d = n % 7 + 1;
      week_is = sym (ap (λ (d : WeekDate). d.week) f);
      weekday_is = sym (ap (λ (d : WeekDate). d.weekday) f);
      week_day = subst (λ y. WeekDay n y ((thursday_at n - first_day o.year) / 7 + 1) (n % 7 + 1)) p
          (record { in_year = o.in_year; week = refl; weekday = refl });
    }

-- the day of a week date that its year has
pub week_date_of_day : (y w d : ℕ) → HasWeek y w d → week_date_of (base_count +ℤ pos (day_of y w d)) ≡ week_date (base_year +ℤ pos y) (pos w) (pos d)
week_date_of_day y w d h =
    let k = day_of_week y w d h in
    week_date_at (day_of y w d) y k.in_year ∙ (λ i. week_date (base_year +ℤ pos y) (pos (k.week i)) (pos (k.weekday i)))

-- the day at which the search begins
abbrev look_day : ℕ
look_day = since base_count look_from

looked_at : (i : ℕ) → look_from +ℤ pos i ≡ base_count +ℤ pos (look_day + i)
looked_at i = +ℤ_assoc base_count (pos look_day) (pos i)

-- the days of the week years lie among those that are looked at
day_bounds : (y w d : ℕ) → from_year ≤ y → y ≤ to_year → HasWeek y w d → (look_day ≤ day_of y w d) × (day_of y w d < look_day + look_through)
unfolding day_of
day_bounds y w d from to h =
    let m = first_monday_lem y in (
      omega (arith, m.low, first_day_of_first, first_day_monotone from_year y from),
      by_weeks (λ k. w ≤ k → first_monday y + 7 * (w - 1) + (d - 1) < look_day + look_through) y
          (λ l k. omega (arith, m.high, first_day_of_last, first_day_monotone y to_year to, h.day_high))
          (λ l k. omega (arith, m.high, first_day_of_last, first_day_monotone y to_year to, h.day_high))
          h.week_high,
    )

module _ {year : ℤ} {y : ℕ} (inside : outside first_week_year last_week_year year ≡ false) (year_is : base_year +ℤ pos y ≡ year)
    (from : from_year ≤ y) (to : y ≤ to_year) where
  tested : (week weekday : ℤ) → week_days_answer year week weekday ≡ day_with (week_date (base_year +ℤ pos y) week weekday) look_through look_from
  unfolding week_days_answer
  tested week weekday = rw inside (ap (λ y. day_with (week_date y week weekday) look_through look_from) (sym year_is))

  -- 16 where the year has no such week
  pub no_week : (week weekday : ℤ) → ((w d : ℕ) → week ≡ pos w → weekday ≡ pos d → HasWeek y w d → ⊥) → week_days_answer year week weekday ≡ refused 16
  no_week week weekday none =
      tested week weekday
      ∙ none_has (week_date (base_year +ℤ pos y) week weekday) look_through look_from
      (λ i l e. let a = has (look_day + i) y week weekday (ap week_date_of (sym (looked_at i)) ∙ e) in
      none a.w a.d a.week_is a.weekday_is (week_of_day (look_day + i) y a.w a.d a.week_day).0)

  -- and else the one day that has it
  pub one_day : (w d : ℕ) → HasWeek y w d → week_days_answer year (pos w) (pos d) ≡ in_range (base_count +ℤ pos (day_of y w d))
  one_day w d h =
      let b = day_bounds y w d from to h in
      let j : ℕ = day_of y w d - look_day in
      let k : look_day + j ≡ day_of y w d = omega (arith, b.0) in
      let e : look_from +ℤ pos j ≡ base_count +ℤ pos (day_of y w d) = looked_at j ∙ ap (λ n. base_count +ℤ pos n) k in
      tested (pos w) (pos d)
      ∙ first_has (week_date (base_year +ℤ pos y) (pos w) (pos d)) look_through j look_from (omega (arith, b.0, b.1))
      (λ i l f. let a = has (look_day + i) y (pos w) (pos d) (ap week_date_of (sym (looked_at i)) ∙ f) in
      let g = (week_of_day (look_day + i) y a.w a.d a.week_day).1 in
      absurd (omega (arith, b.0, g, ap₂ (λ (w d : ℤ). day_of y (nat_abs w) (nat_abs d)) a.week_is a.weekday_is)))
      (ap week_date_of e ∙ week_date_of_day y w d h)
      ∙ ap in_range e

-- ---- a tested week year

-- a refused one has no day
pub year_refuses :
    (year week weekday : ℤ) (k : ℕ) → SFits w64 year → refused k ≡ year_answer (read year) → refused k ≡ week_days_answer year week weekday
unfolding year_answer week_days_answer
year_refuses year week weekday k f e =
    refuses (outside first_week_year last_week_year year) 1 _ _ (not_refused _ _) (e ∙ ap year_answer (to_z-of_z f))

-- an accepted one is a number from the base on
pub record TestedYear (year : ℤ) (y : ℕ) : Type 0 where
  pub inside : outside first_week_year last_week_year year ≡ false
  pub is : base_year +ℤ pos y ≡ year
  pub from : from_year ≤ y
  pub to : y ≤ to_year

pub year_passes : (year : ℤ) (y : ℕ) → value y ≡ year_answer year → TestedYear year y
unfolding year_answer
year_passes year y e =
    let p = passes (outside first_week_year last_week_year year) 1 (value (since base_year year)) e in
    let n = same_value p.1 in
    record {
      inside = p.0;
      is = ap (λ k. base_year +ℤ pos k) n ∙ based.is base_year first_week_year last_week_year refl refl year p.0;
      from = subst (λ k. from_year ≤ k) (sym n) (based.from base_year first_week_year last_week_year refl refl year p.0);
      to = subst (λ k. k ≤ to_year) (sym n) (based.to base_year first_week_year last_week_year refl refl year p.0);
    }

-- ---- a week and a weekday, tested beside an accepted year

-- a week outside the year's, or a weekday outside 1..7, is in no week date
outside_one_to : (last : ℕ) (z : ℤ) (n : ℕ) → outside (pos 1) (pos last) z ≡ true → z ≡ pos n → 1 ≤ n → n ≤ last → ⊥
outside_one_to last z n e p lo hi = no_both (outside (pos 1) (pos last) z) e (ap (outside (pos 1) (pos last)) p ∙ inside_pos 1 last n lo hi)

module _ (year week weekday : ℤ) (y : ℕ) (e : value y ≡ year_answer year) where
  sixteen : ((w d : ℕ) → week ≡ pos w → weekday ≡ pos d → HasWeek y w d → ⊥) → refused 16 ≡ week_days_answer year week weekday
  sixteen none = let t = year_passes year y e in sym (no_week t.inside t.is t.from t.to week weekday none)

  pub week_refuses : not (outside (pos 1) (pos (weeks y)) week) ≡ false → refused 16 ≡ week_days_answer year week weekday
  week_refuses h = sixteen (λ w d p q k. outside_one_to (weeks y) week w (not-false _ h) p k.week_low k.week_high)

  pub weekday_refuses : outside (pos 1) (pos 7) weekday ≡ true → refused 16 ≡ week_days_answer year week weekday
  weekday_refuses h = sixteen (λ w d p q k. outside_one_to 7 weekday d h q k.day_low k.day_high)

  module _ (h : not (outside (pos 1) (pos (weeks y)) week) ≡ true) (k : outside (pos 1) (pos 7) weekday ≡ false) where
    week_within : Within 1 (weeks y) week
    week_within = natural_within 1 (pos (weeks y)) week (not-true _ h)

    pub weekday_within : Within 1 7 weekday
    weekday_within = natural_within 1 (pos 7) weekday k

    pub week_within_53 : Within 1 53 week
    week_within_53 =
        record {
          is = week_within.is;
          low = week_within.low;
          high = by_weeks (λ n. nat_abs week ≤ n → nat_abs week ≤ 53) y (λ l h. h) (λ l h. omega arith) week_within.high;
        }

    pub day_decides : in_range (base_count +ℤ pos (day_of y (nat_abs week) (nat_abs weekday))) ≡ week_days_answer year week weekday
    day_decides =
        let t = year_passes year y e in
        let a = week_within in
        let b = weekday_within in
        sym (one_day t.inside t.is t.from t.to (nat_abs week) (nat_abs weekday)
        (record { week_low = a.low; week_high = a.high; day_low = b.low; day_high = b.high }))
        ∙ ap₂ (week_days_answer year) (sym a.is) (sym b.is)
