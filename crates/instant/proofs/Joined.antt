-- What the tests of the fields decide.
use Prim.Native.Nat.{ℕ}
use mathlib.Core.Path.{◌≡◌, refl, sym, ap, ◌∙◌, subst}
use mathlib.Core.Bool.{Bool, true, false, cond}
use lib.IntN.{ℤ, pos, ◌+ℤ◌, ◌*ℤ◌}
use mir.Syntax.{w64}
use mir.Val.{SFits}
use mir.Facts.{to_z-of_z}
use Rattle.refusal.specs.Outcome.{value, refused}
use Rattle.numbers.specs.Range.{outside}
use Rattle.numbers.proofs.Machine.{read}
use Rattle.refusal.proofs.Outcomes.{clash, passes, refuses, not_refused, same_value}
use Rattle.calendar.specs.declared.Date.{Date}
use Rattle.calendar.specs.Range.{first_year, last_year}
use Rattle.calendar.specs.Gregorian.{month_length, date_of}
use Rattle.calendar.specs.Count.{count_of_date}
use Rattle.calendar.specs.Answers.{of_date, days_answer}
use Rattle.calendar.proofs.Tests.{accepted_is, accepted_answer, date_refused}
use Rattle.calendar.proofs.Dates.{days_inside}
use Rattle.instant.specs.Units.{per_day}
use Rattle.instant.specs.Instant.{time_of_fields, instant_at}
use Rattle.instant.specs.Answers.{bad_time, join_answer}
use Rattle.instant.specs.Checked.{time_answer}
use Rattle.instant.proofs.Times.{natural, timeℕ, time_is, time_small}
use Rattle.instant.proofs.Ranges.{instant_fits, midnight_fits}

module _ (hour minute second fraction : ℤ) where
  -- an accepted time
  pub time_accepted : (z : ℤ) → value z ≡ time_answer hour minute second fraction → (bad_time hour minute second fraction ≡ false) × (z ≡ time_of_fields hour minute second fraction)
  unfolding time_answer
  time_accepted z e = let p = passes (bad_time hour minute second fraction) 5 _ e in (p.0, same_value p.1)

  time_refused : (x : ℤ) (k : ℕ) → refused k ≡ time_answer hour minute second fraction → refused k ≡ cond (bad_time hour minute second fraction) (refused 5) (value x)
  unfolding time_answer
  time_refused x k = refuses (bad_time hour minute second fraction) 5 _ _ (not_refused _ _)

  pub time_read :
      SFits w64 hour → SFits w64 minute → SFits w64 second → SFits w64 fraction →
      time_answer (read hour) (read minute) (read second) (read fraction) ≡ time_answer hour minute second fraction
  time_read p q r s = λ i. time_answer (to_z-of_z p i) (to_z-of_z q i) (to_z-of_z r i) (to_z-of_z s i)

  -- what the two parts make of the whole
  module _ (year month day : ℤ) where
    pub join_refuses_date :
        (k : ℕ) → refused k ≡ days_answer year month day → refused k ≡ join_answer year month day hour minute second fraction
    unfolding days_answer join_answer
    join_refuses_date k e = date_refused year month day count_of_date k _ e

    module _ (count : ℤ) (e : value count ≡ days_answer year month day) where
      on_date :
          join_answer year month day hour minute second fraction
          ≡ cond (bad_time hour minute second fraction) (refused 5) (value (count *ℤ pos per_day +ℤ time_of_fields hour minute second fraction))
      unfolding days_answer join_answer instant_at
      on_date =
          accepted_answer year month day count_of_date count e _
          ∙ ap (λ (z : ℤ). cond (bad_time hour minute second fraction) (refused 5) (value (z *ℤ pos per_day +ℤ time_of_fields hour minute second fraction)))
          (sym (accepted_is year month day count_of_date count e))

      pub join_refuses_time :
          (k : ℕ) → refused k ≡ time_answer hour minute second fraction →
          refused k ≡ join_answer year month day hour minute second fraction
      join_refuses_time k f = time_refused _ k f ∙ sym on_date

      pub joined :
          bad_time hour minute second fraction ≡ false →
          join_answer year month day hour minute second fraction ≡ value (count *ℤ pos per_day +ℤ time_of_fields hour minute second fraction)
      joined h = on_date ∙ ap (λ t. cond t (refused 5) (value (count *ℤ pos per_day +ℤ time_of_fields hour minute second fraction))) h

-- what the product and the sum of an accepted date and an accepted time ask, and what they are
module _ (year month day count : ℤ) (e : value count ≡ days_answer year month day) where
  pub midnight_of_date_fits : SFits w64 (count *ℤ pos per_day)
  midnight_of_date_fits = midnight_fits count (days_inside year month day count e)

  module _ (hour minute second fraction time : ℤ) (t : value time ≡ time_answer hour minute second fraction) where
    pub join_fits : SFits w64 (count *ℤ pos per_day +ℤ time)
    join_fits =
        let a = time_accepted hour minute second fraction time t in
        let n = natural hour minute second fraction a.0 in
        subst (λ (y : ℤ). SFits w64 (count *ℤ pos per_day +ℤ y)) (sym (a.1 ∙ time_is hour minute second fraction n))
        (instant_fits count (days_inside year month day count e) (timeℕ hour minute second fraction)
        (time_small hour minute second fraction n))

    pub join_accepts : value (count *ℤ pos per_day +ℤ time) ≡ join_answer year month day hour minute second fraction
    join_accepts =
        let a = time_accepted hour minute second fraction time t in
        ap (λ (y : ℤ). value (count *ℤ pos per_day +ℤ y)) a.1 ∙ sym (joined hour minute second fraction year month day count e a.0)

-- accepted fields: the date has a count, and the time of day is in its limits
pub record Accepted (year month day hour minute second fraction instant : ℤ) : Type 0 where
  pub not_bad : bad_time hour minute second fraction ≡ false
  pub count : ℤ
  pub days : value count ≡ days_answer year month day
  pub is : instant ≡ count *ℤ pos per_day +ℤ time_of_fields hour minute second fraction

never : {B : Type 0} (year month day z : ℤ) (k : ℕ) → value z ≡ of_date year month day (λ d. refused k) → B
unfolding of_date
never year month day z k e =
    let a = passes (outside first_year last_year year) 1 _ e in
    let b = passes (outside (pos 1) (pos 12) month) 2 _ a.1 in
    let c = passes (outside (pos 1) (month_length year month) day) 3 _ b.1 in
    clash (cc c.1)

module _ (year month day hour minute second fraction instant : ℤ) where
  pub join_accepted :
      value instant ≡ join_answer year month day hour minute second fraction → Accepted year month day hour minute second fraction instant
  unfolding join_answer instant_at days_answer
  join_accepted = go (bad_time hour minute second fraction) refl
    where
      go : (t : Bool) → bad_time hour minute second fraction ≡ t →
          value instant ≡ of_date year month day (λ d. cond t (refused 5) (value (count_of_date d *ℤ pos per_day +ℤ time_of_fields hour minute second fraction))) →
          Accepted year month day hour minute second fraction instant
      go true h e = never year month day instant 5 e
      go false h e =
          let g : Date → ℤ = λ d. count_of_date d *ℤ pos per_day +ℤ time_of_fields hour minute second fraction in
          record {
            not_bad = h;
            count = count_of_date (date_of year month day);
            days = sym (accepted_answer year month day g instant e (λ d. value (count_of_date d)));
            is = accepted_is year month day g instant e;
          }
