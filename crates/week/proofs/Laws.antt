-- The theorems of week dates, over the definition by steps: document 02, request Seven.
use Prim.Native.Nat.{ℕ, ◌+◌, ◌≤◌, ◌<◌}
use mathlib.Core.Path.{◌≡◌, refl, sym, ap, ap₂, ◌∙◌}
use mathlib.Core.Logic.{◌↔◌, ◌⊎◌, inl, inr, ⊎_elim}
use mathlib.Core.Bool.{Bool, true, false, cond}
use native.Mathlib.Omega.{arith, by_contra}
use lib.IntN.{ℤ, pos, nat_abs, ◌+ℤ◌}
use lib.Signed.{lt_z}
use borrow.Author.Tests.{ltb-true}
use Rattle.refusal.specs.Outcome.{Outcome, value, refused}
use Rattle.refusal.proofs.Outcomes.{clash, passes, same_value}
use Rattle.numbers.specs.Range.{outside, since}
use Rattle.numbers.proofs.Integers.{add_since, lt_add, wider}
use Rattle.numbers.proofs.Between.{natural_within, inside_pos, inside_from}
use Rattle.numbers.proofs.Bools.{no_both}
use Rattle.calendar.specs.Range.{first_count, last_count}
use Rattle.calendar.specs.Count.{weekday}
use Rattle.calendar.specs.Answers.{weekday_answer}
use Rattle.calendar.proofs.WeekdayLaws.{weekday_is_in_range}
use Rattle.week.specs.declared.WeekDate.{WeekDate}
use Rattle.week.specs.Week.{week_date, week_date_of}
use Rattle.week.specs.Answers.{week_answer, first_week_year, last_week_year, in_range, week_days_answer}
use Rattle.week.specs.Order.{DayOf, HasWeeks}
use Rattle.week.specs.Closed.{base_year, base_count, from_year, to_year, from_day, to_day, InYear, weeks, day_of}
use Rattle.week.proofs.Years.{thursday_at, first_day_step, first_day_monotone, first_day_of_first, first_day_of_last, HasWeek, by_weeks, week_of_day}
use Rattle.week.proofs.Dates.{on_day}
use Rattle.week.proofs.Weeks.{week_date_at}
use Rattle.week.proofs.Answers.{Has, week_date_of_day, no_week, one_day}
use Rattle.week.proofs.Answers as Answers
use Rattle.week.proofs.Before.{not_after_base, week_year_before}
use Rattle.numbers.proofs.Based.{is, from, to}

-- the weekday is the calendar's, of the definition and of the calls
week_date_weekday : (z : ℤ) → (week_date_of z).weekday ≡ weekday z
unfolding week_date_of
week_date_weekday z = refl

pub weekday_is_the_calendar's : (z : ℤ) (w : WeekDate) → week_answer z ≡ value w → weekday_answer z ≡ value w.weekday
unfolding week_answer weekday_answer
weekday_is_the_calendar's z w e =
    let p = passes (outside first_count last_count z) 4 (value (week_date_of z)) (sym e) in
    ap (λ t. cond t (refused 4) (value (weekday z))) p.0
    ∙ ap value (sym (ap (λ (d : WeekDate). d.weekday) (same_value p.1) ∙ week_date_weekday z))

-- a day is answered by its count or by 4
not_sixteen : (z : ℤ) → in_range z ≡ refused 16 → ⊥
not_sixteen z = go (outside first_count last_count z)
  where
    go : (t : Bool) → cond t (refused 4) (value z) ≡ refused 16 → ⊥
    go true e = clash (cc)
    go false e = clash (cc)

-- a week year of the range, counted from the base
module _ (year : ℤ) (h : outside first_week_year last_week_year year ≡ false) where
  abbrev number : ℕ
  number = since base_year year

  year_is : base_year +ℤ pos number ≡ year
  year_is = is base_year first_week_year last_week_year refl refl year h

  year_from : from_year ≤ number
  year_from = from base_year first_week_year last_week_year refl refl year h

  year_to : number ≤ to_year
  year_to = to base_year first_week_year last_week_year refl refl year h

  -- a day that has a week date of the year is the base or a later one
  from_base : {week weekday : ℤ} (a : DayOf year week weekday) → lt_z a.day base_count ≡ false
  from_base a = go (lt_z a.day base_count) refl
    where
      go : (t : Bool) → lt_z a.day base_count ≡ t → t ≡ false
      go true l = not_after_base year (ap (lt_z base_year) (sym (ap (λ (d : WeekDate). d.year) a.has)) ∙ week_year_before a.day l) h
      go false l = refl

  -- its week and weekday as natural numbers, which the year has
  day_has : {week weekday : ℤ} (a : DayOf year week weekday) → Has (since base_count a.day) number week weekday
  day_has {week} {weekday} a =
      Answers.has (since base_count a.day) number week weekday
      (ap week_date_of (add_since base_count a.day (from_base a)) ∙ a.has ∙ ap (λ (y : ℤ). week_date y week weekday) (sym year_is))

  week_has : {week weekday : ℤ} (a : DayOf year week weekday) →
      HasWeek number (day_has a).w (day_has a).d × (day_of number (day_has a).w (day_has a).d ≡ since base_count a.day)
  week_has a = week_of_day (since base_count a.day) number (day_has a).w (day_has a).d (day_has a).week_day

  -- where the year has the week there is a day
  day_of_lem : {week weekday : ℤ} (w d : ℕ) → week ≡ pos w → weekday ≡ pos d → HasWeek number w d → DayOf year week weekday
  day_of_lem w d p q k =
      record {
        day = base_count +ℤ pos (day_of number w d);
        has = week_date_of_day number w d k ∙ (λ i. week_date (year_is i) (sym p i) (sym q i));
      }

  -- the day that has a week date is what the call answers, or 4 where it is outside the range
  pub day_is_answered : (week weekday : ℤ) (a : DayOf year week weekday) → week_days_answer year week weekday ≡ in_range a.day
  day_is_answered week weekday a =
      let b = day_has a in
      let k = week_has a in
      ap₂ (week_days_answer year) b.week_is b.weekday_is ∙ one_day h year_is year_from year_to b.w b.d k.0
      ∙ ap in_range (ap (λ n. base_count +ℤ pos n) k.1 ∙ add_since base_count a.day (from_base a))

  -- 16 exactly if no day at all, in the range or not, has that week and weekday
  pub sixteen_exactly : (week weekday : ℤ) → (week_days_answer year week weekday ≡ refused 16) ↔ (DayOf year week weekday → ⊥)
  sixteen_exactly week weekday = (
    λ e a. not_sixteen a.day (sym (day_is_answered week weekday a) ∙ e),
    λ none. no_week h year_is year_from year_to week weekday (λ w d p q k. none (day_of_lem w d p q k)),
  )

  -- a year has 52 weeks or 53
  weeks_of : (last : ℕ) → weeks number ≡ last → HasWeeks year last
  weeks_of last e =
      record {
        each = λ week weekday p q.
            let v = natural_within 1 (pos last) week p in
            let w = natural_within 1 (pos 7) weekday q in
            day_of_lem (nat_abs week) (nat_abs weekday) v.is w.is
            (record { week_low = v.low; week_high = omega (arith, v.high, e); day_low = w.low; day_high = w.high });
        week_of = λ week weekday a.
            let b = day_has a in
            let k = (week_has a).0 in
            ap (outside (pos 1) (pos last)) b.week_is ∙ inside_pos 1 last b.w k.week_low (omega (arith, k.week_high, e));
        weekday_of = λ week weekday a.
            let b = day_has a in
            let k = (week_has a).0 in
            ap (outside (pos 1) (pos 7)) b.weekday_is ∙ inside_pos 1 7 b.d k.day_low k.day_high;
      }

  pub fifty_two_or_fifty_three : HasWeeks year 52 ⊎ HasWeeks year 53
  fifty_two_or_fifty_three =
      by_weeks (λ k. weeks number ≡ k → HasWeeks year 52 ⊎ HasWeeks year 53) number (λ l e. inr (weeks_of 53 e)) (λ l e. inl (weeks_of 52 e)) refl

  -- whether there is such a day can be told
  day_or_none : (week weekday : ℤ) → DayOf year week weekday ⊎ (DayOf year week weekday → ⊥)
  day_or_none week weekday = go (outside (pos 1) (pos (weeks number)) week) (outside (pos 1) (pos 7) weekday) refl refl
    where
      go : (s t : Bool) → outside (pos 1) (pos (weeks number)) week ≡ s → outside (pos 1) (pos 7) weekday ≡ t →
          DayOf year week weekday ⊎ (DayOf year week weekday → ⊥)
      go true t p q = inr (λ a. no_both _ p ((weeks_of (weeks number) refl).week_of week weekday a))
      go false true p q = inr (λ a. no_both _ q ((weeks_of (weeks number) refl).weekday_of week weekday a))
      go false false p q = inl ((weeks_of (weeks number) refl).each week weekday p q)

  -- an answered day has the week date, and one that is refused with 4 lies outside the range
  pub answered_day : (week weekday z : ℤ) → week_days_answer year week weekday ≡ value z →
      (week_date_of z ≡ week_date year week weekday) × (outside first_count last_count z ≡ false)
  answered_day week weekday z e = ⊎_elim found (λ none. absurd (clash_sixteen (sym ((sixteen_exactly week weekday).1 none) ∙ e))) (day_or_none week weekday)
    where
      clash_sixteen : refused 16 ≡ value z → ⊥
      clash_sixteen f = clash (cc)

      found : DayOf year week weekday → (week_date_of z ≡ week_date year week weekday) × (outside first_count last_count z ≡ false)
      found a =
          let p = passes (outside first_count last_count a.day) 4 (value a.day) (sym e ∙ day_is_answered week weekday a) in
          let q = same_value p.1 in
          (ap week_date_of q ∙ a.has, ap (outside first_count last_count) q ∙ p.0)

  -- 4 exactly if a day outside the range has it
  pub four_exactly : (week weekday : ℤ) →
      (week_days_answer year week weekday ≡ refused 4) ↔ ((a : DayOf year week weekday) × (outside first_count last_count a.day ≡ true))
  four_exactly week weekday = (
    λ e. ⊎_elim (λ a. (a, outside_range a.day (sym (day_is_answered week weekday a) ∙ e))) (λ none. absurd (other (sym ((sixteen_exactly week weekday).1 none) ∙ e))) (day_or_none week weekday),
    λ a. day_is_answered week weekday a.0 ∙ ap (λ t. cond t (refused 4) (value a.0.day)) a.1,
  )
    where
      other : ◌≡◌ {A = Outcome ℤ} (refused 16) (refused 4) → ⊥
      other e = clash (cc)

      outside_range : (z : ℤ) → in_range z ≡ refused 4 → outside first_count last_count z ≡ true
      outside_range z = go (outside first_count last_count z)
        where
          go : (t : Bool) → cond t (refused 4) (value z) ≡ refused 4 → t ≡ true
          go true e = refl
          go false e = clash (cc)

  -- every day of a week year between the first and the last lies in the range, so that 4 is for these two only
  module _ (after : lt_z first_week_year year ≡ true) (before : lt_z year last_week_year ≡ true) where
    number_after : from_year < number
    number_after = ltb-true from_year number (sym (lt_add base_year from_year number) ∙ ap (lt_z first_week_year) year_is ∙ after)

    number_before : number < to_year
    number_before = ltb-true number to_year (sym (lt_add base_year number to_year) ∙ ap (λ y. lt_z y last_week_year) year_is ∙ before)

    inner_day : {week weekday : ℤ} (a : DayOf year week weekday) → outside first_count last_count a.day ≡ false
    inner_day a =
        let n = since base_count a.day in
        let i = (day_has a).week_day.in_year in
        let l = number_after in
        let k = number_before in
        ap (outside first_count last_count) (sym (add_since base_count a.day (from_base a)))
        ∙ inside_from base_count from_day to_day n
        (omega (arith, i.low, first_day_of_first, first_day_step from_year, first_day_monotone (from_year + 1) number (omega arith)))
        (omega (arith, i.high, first_day_of_last, first_day_monotone (number + 1) to_year (omega arith)))

    pub four_at_the_ends : (week weekday : ℤ) → week_days_answer year week weekday ≡ refused 4 → ⊥
    four_at_the_ends week weekday e = let a = (four_exactly week weekday).0 e in no_both _ a.1 (inner_day a.0)

  -- it is refused with nothing but 16 and 4
  pub week_refusal : (week weekday : ℤ) (n : ℕ) → week_days_answer year week weekday ≡ refused n → (n ≡ 16) ⊎ (n ≡ 4)
  week_refusal week weekday n e =
      ⊎_elim (λ a. inr (four a.day (sym (day_is_answered week weekday a) ∙ e))) (λ none. inl (sixteen (sym ((sixteen_exactly week weekday).1 none) ∙ e)))
      (day_or_none week weekday)
    where
      sixteen : ◌≡◌ {A = Outcome ℤ} (refused 16) (refused n) → n ≡ 16
      sixteen f = cc

      four : (z : ℤ) → in_range z ≡ refused n → n ≡ 4
      four z = go (outside first_count last_count z)
        where
          go : (t : Bool) → cond t (refused 4) (value z) ≡ refused n → n ≡ 4
          go true f = cc
          go false f = clash (cc)

-- the week year of a day of the range is one of the week years
module _ (z : ℤ) (h : outside first_count last_count z ≡ false) where
  abbrev day : ℕ
  day = since base_count z

  week_year_lem : (y : ℕ) → InYear (thursday_at day) y → (from_year ≤ y) × (y ≤ to_year)
  week_year_lem y i =
      let from = from base_count first_count last_count refl refl z h in
      let to = to base_count first_count last_count refl refl z h in (
        by_contra _ _ (λ l. omega (arith, i.high, first_day_of_first, first_day_monotone (y + 1) from_year (omega arith))),
        by_contra _ _ (λ l. omega (arith, i.low, first_day_of_last, first_day_step to_year, first_day_monotone (to_year + 1) y (omega arith))),
      )

  pub week_year_is_in_range : outside first_week_year last_week_year (week_date_of z).year ≡ false
  week_year_is_in_range =
      let o = on_day (thursday_at day) in
      let b = week_year_lem o.year o.in_year in
      let e = ap week_date_of (sym (is base_count first_count last_count refl refl z h)) ∙ week_date_at day o.year o.in_year in
      ap (λ (d : WeekDate). outside first_week_year last_week_year d.year) e ∙ inside_from base_year from_year to_year o.year b.0 b.1

  -- day, week date, day
  pub days_of_week_date_of : week_days_answer (week_date_of z).year (week_date_of z).week (week_date_of z).weekday ≡ value z
  days_of_week_date_of =
      let w = week_date_of z in
      day_is_answered w.year week_year_is_in_range w.week w.weekday (record { day = z; has = refl })
      ∙ ap (λ t. cond t (refused 4) (value z)) h

-- the same of the two calls: each undoes the other
pub days_of_week : (z : ℤ) (w : WeekDate) → week_answer z ≡ value w → week_days_answer w.year w.week w.weekday ≡ value z
unfolding week_answer
days_of_week z w e =
    let p = passes (outside first_count last_count z) 4 (value (week_date_of z)) (sym e) in
    ap (λ (w : WeekDate). week_days_answer w.year w.week w.weekday) (same_value p.1) ∙ days_of_week_date_of z p.0

pub week_of_days : (year week weekday z : ℤ) → week_days_answer year week weekday ≡ value z → week_answer z ≡ value (week_date year week weekday)
unfolding week_answer week_days_answer
week_of_days year week weekday z e =
    let p = passes (outside first_week_year last_week_year year) 1 _ (sym e) in
    let a = answered_day year p.0 week weekday z e in
    ap (λ t. cond t (refused 4) (value (week_date_of z))) a.1 ∙ ap value a.0

-- a week is one of 1 to 53, and a weekday of 1 to 7
pub week_date_is_right : (z : ℤ) → outside first_count last_count z ≡ false →
    (outside (pos 1) (pos 53) (week_date_of z).week ≡ false) × (outside (pos 1) (pos 7) (week_date_of z).weekday ≡ false)
week_date_is_right z h =
    let w = week_date_of z in (
      ⊎_elim (λ a. wider (pos 1) (pos 52) (pos 1) (pos 53) w.week refl refl (a.week_of w.week w.weekday (record { day = z; has = refl }))) (λ a. a.week_of w.week w.weekday (record { day = z; has = refl }))
          (fifty_two_or_fifty_three w.year (week_year_is_in_range z h)),
      ap (outside (pos 1) (pos 7)) (week_date_weekday z) ∙ weekday_is_in_range z,
    )
