-- The day that has a week date, and where none has.
use Prim.Native.Nat.{ℕ, zero, suc, ◌<◌}
use mathlib.Core.Path.{◌≡◌, refl, sym, ap, ◌∙◌}
use mathlib.Core.Bool.{Bool, true, false, cond, ◌&&◌}
use native.Mathlib.Omega.{arith}
use lib.IntN.{ℤ, pos, ◌+ℤ◌, +ℤ_assoc, +ℤ_idr}
use Rattle.refusal.specs.Outcome.{refused}
use Rattle.numbers.specs.Range.{eq_z}
use Rattle.numbers.proofs.Integers.{eq_z_same, eq_z_true}
use Rattle.numbers.proofs.Bools.{and_left, and_right}
use Rattle.week.specs.declared.WeekDate.{WeekDate}
use Rattle.week.specs.Week.{week_date, week_date_of, same_week_date}
use Rattle.week.specs.Answers.{in_range, day_with}

same : (d : WeekDate) → same_week_date d d ≡ true
same d = simp (eq_z_same d.year, eq_z_same d.week, eq_z_same d.weekday)

pub are_same : (d e : WeekDate) → same_week_date d e ≡ true → d ≡ e
are_same d e h =
    let rest = eq_z d.week e.week && eq_z d.weekday e.weekday in
    let p = eq_z_true d.year e.year (and_left (eq_z d.year e.year) rest h) in
    let k = and_right (eq_z d.year e.year) rest h in
    let q = eq_z_true d.week e.week (and_left (eq_z d.week e.week) (eq_z d.weekday e.weekday) k) in
    let r = eq_z_true d.weekday e.weekday (and_right (eq_z d.week e.week) (eq_z d.weekday e.weekday) k) in
    λ i. week_date (p i) (q i) (r i)

module _ (w : WeekDate) where
  -- one step of the search, by whether the day has the week date
  step : {A : Type 0} (z : ℤ) (found next : A) → (week_date_of z ≡ w → ⊥) → cond (same_week_date (week_date_of z) w) found next ≡ next
  step z found next none = go (same_week_date (week_date_of z) w) refl
    where
      go : (t : Bool) → same_week_date (week_date_of z) w ≡ t → cond t found next ≡ next
      go true e = absurd (none (are_same (week_date_of z) w e))
      go false e = refl

  later : (z : ℤ) (i : ℕ) → (z +ℤ pos 1) +ℤ pos i ≡ z +ℤ pos (suc i)
  later z i = +ℤ_assoc z (pos 1) (pos i) ∙ ap (λ n. z +ℤ pos n) (omega arith)

  -- none of n days has it
  pub none_has : (n : ℕ) (z : ℤ) → ((i : ℕ) → i < n → week_date_of (z +ℤ pos i) ≡ w → ⊥) → day_with w n z ≡ refused 16
  unfolding day_with
  none_has zero z none = refl
  none_has (suc n) z none =
      step z _ _ (λ e. none 0 (omega arith) (ap week_date_of (+ℤ_idr z) ∙ e))
      ∙ none_has n (z +ℤ pos 1) (λ i l e. none (suc i) (omega arith) (ap week_date_of (sym (later z i)) ∙ e))

  -- the first of them that has it is j days on
  pub first_has :
      (n j : ℕ) (z : ℤ) → j < n → ((i : ℕ) → i < j → week_date_of (z +ℤ pos i) ≡ w → ⊥) → week_date_of (z +ℤ pos j) ≡ w →
      day_with w n z ≡ in_range (z +ℤ pos j)
  unfolding day_with
  first_has zero j z l none e = absurd (omega arith)
  first_has (suc n) zero z l none e =
      ap (λ t. cond t (in_range z) (day_with w n (z +ℤ pos 1))) (ap (λ d. same_week_date d w) (ap week_date_of (sym (+ℤ_idr z)) ∙ e) ∙ same w)
      ∙ ap in_range (sym (+ℤ_idr z))
  first_has (suc n) (suc j) z l none e =
      step z _ _ (λ f. none 0 (omega arith) (ap week_date_of (+ℤ_idr z) ∙ f))
      ∙ first_has n j (z +ℤ pos 1) (omega arith) (λ i k f. none (suc i) (omega arith) (ap week_date_of (sym (later z i)) ∙ f))
      (ap week_date_of (later z j) ∙ e)
      ∙ ap in_range (later z j)
