-- What the tests of a year, a month and a day decide.
use Prim.Native.Nat.{ℕ}
use mathlib.Core.Path.{◌≡◌, refl, ap, ◌∙◌}
use mathlib.Core.Bool.{false, cond}
use lib.IntN.{ℤ, pos, nat_abs, ◌+ℤ◌}
use Rattle.refusal.specs.Outcome.{Outcome, value, refused}
use Rattle.refusal.proofs.Outcomes.{passes, refuses, not_refused, same_value}
use Rattle.numbers.specs.Range.{outside}
use Rattle.numbers.proofs.Based as based
use Rattle.calendar.specs.declared.Date.{Date}
use Rattle.calendar.specs.Range.{first_year, last_year}
use Rattle.calendar.specs.Gregorian.{month_length, date_of, ValidDate}
use Rattle.calendar.specs.Answers.{of_date}
use Rattle.calendar.specs.Checked.{year_answer, month_answer}
use Rattle.calendar.specs.Closed.{base_year}

-- the day, after year and month
pub day_decides :
    {A : Type 0} (year month day : ℤ) (f : Date → Outcome A) → outside first_year last_year year ≡ false →
    outside (pos 1) (pos 12) month ≡ false →
    of_date year month day f ≡ cond (outside (pos 1) (month_length year month) day) (refused 3) (f (date_of year month day))
unfolding of_date
day_decides year month day f p q = rw (p, q)

-- a valid date is answered as `f` says
pub valid_answer : {A : Type 0} (d : Date) (f : Date → Outcome A) → ValidDate d → of_date d.year d.month d.day f ≡ f d
valid_answer d f v =
    day_decides d.year d.month d.day f v.year_inside v.month_inside
    ∙ ap (λ t. cond t (refused 3) (f d)) v.day_inside

-- a date that has an answer
module _ {B : Type 0} (year month day : ℤ) (g : Date → B) (z : B) (h : value z ≡ of_date year month day (λ d. value (g d))) where
  passed :
      (outside first_year last_year year ≡ false) × ((outside (pos 1) (pos 12) month ≡ false)
      × ((outside (pos 1) (month_length year month) day ≡ false) × (z ≡ g (date_of year month day))))
  unfolding of_date
  passed =
      let a = passes (outside first_year last_year year) 1 _ h in
      let b = passes (outside (pos 1) (pos 12) month) 2 _ a.1 in
      let c = passes (outside (pos 1) (month_length year month) day) 3 _ b.1 in
      (a.0, (b.0, (c.0, same_value c.1)))

  pub accepted_valid : ValidDate (date_of year month day)
  accepted_valid = record { year_inside = passed.0; month_inside = passed.1.0; day_inside = passed.1.1.0 }

  pub accepted_is : z ≡ g (date_of year month day)
  accepted_is = passed.1.1.1

  pub accepted_answer : {A : Type 0} (f : Date → Outcome A) → of_date year month day f ≡ f (date_of year month day)
  accepted_answer f = valid_answer (date_of year month day) f accepted_valid

-- a refused date is refused alike by every call
pub date_refused :
    {A B : Type 0} (year month day : ℤ) (g : Date → B) (k : ℕ) (f : Date → Outcome A) →
    refused k ≡ of_date year month day (λ d. value (g d)) → refused k ≡ of_date year month day f
unfolding of_date
date_refused year month day g k f =
    refuses (outside first_year last_year year) 1 _ _
    (refuses (outside (pos 1) (pos 12) month) 2 _ _ (refuses (outside (pos 1) (month_length year month) day) 3 _ _ (not_refused _ _)))

-- what the test of a year says of it: its place among the years from base_year on
pub year_passes : (year : ℤ) (y : ℕ) → value y ≡ year_answer year → (outside first_year last_year year ≡ false) × (base_year +ℤ pos y ≡ year)
unfolding year_answer
year_passes year y e =
    let p = passes (outside first_year last_year year) 1 _ e in
    (p.0, ap (λ y. base_year +ℤ pos y) (same_value p.1) ∙ based.is base_year first_year last_year refl refl year p.0)

-- and the test of a month of it
pub month_passes : (month : ℤ) (m : ℕ) → value m ≡ month_answer month → (outside (pos 1) (pos 12) month ≡ false) × (m ≡ nat_abs month)
unfolding month_answer
month_passes month m e = let p = passes (outside (pos 1) (pos 12) month) 2 _ e in (p.0, same_value p.1)

-- a date is refused with its year
pub year_refuses :
    {A : Type 0} (year month day : ℤ) (f : Date → Outcome A) (k : ℕ) → refused k ≡ year_answer year → refused k ≡ of_date year month day f
unfolding year_answer of_date
year_refuses year month day f k = refuses (outside first_year last_year year) 1 _ _ (not_refused _ _)

-- and then with its month
pub month_refuses :
    {A : Type 0} (year month day : ℤ) (f : Date → Outcome A) (k : ℕ) → outside first_year last_year year ≡ false → refused k ≡ month_answer month →
    refused k ≡ of_date year month day f
unfolding month_answer of_date
month_refuses year month day f k h e = rw h (refuses (outside (pos 1) (pos 12) month) 2 _ _ (not_refused _ _) e)
