-- A count whose weekday the calendar answers, and the Thursday of its week.
use Prim.Native.Nat.{ℕ, ◌+◌, ◌-◌, ◌/◌, ◌%◌, ◌≤◌}
use mathlib.Core.Path.{◌≡◌, refl, sym, ap, ◌∙◌}
use mathlib.Core.Bool.{false, cond}
use native.Mathlib.Omega.{arith}
use lib.IntN.{ℤ, pos, ◌+ℤ◌}
use mir.Syntax.{w64}
use mir.Val.{SFits}
use mir.Facts.{to_z-of_z}
use Rattle.refusal.specs.Outcome.{value, refused}
use Rattle.refusal.proofs.Outcomes.{passes, refuses, not_refused, same_value}
use Rattle.numbers.specs.Range.{outside, since}
use Rattle.numbers.proofs.Machine.{read}
use Rattle.numbers.proofs.Based.{is, to}
use Rattle.calendar.specs.Range.{first_count, last_count}
use Rattle.calendar.specs.Count.{weekday}
use Rattle.calendar.specs.Answers.{weekday_answer}
use Rattle.week.specs.Week.{week_date, week_date_of}
use Rattle.week.specs.Answers.{week_answer}
use Rattle.week.specs.Closed.{base_year, base_count, to_year, to_day, InYear, first_day}
use Rattle.week.proofs.Years.{thursday_at, year_bound}
use Rattle.week.proofs.Weeks.{weekday_at, week_date_at}

-- a refused count has no week date
pub week_refuses : (z : ℤ) (k : ℕ) → SFits w64 z → refused k ≡ weekday_answer (read z) → refused k ≡ week_answer z
unfolding week_answer weekday_answer
week_refuses z k f e = refuses (outside first_count last_count z) 4 _ _ (not_refused _ _) (e ∙ ap weekday_answer (to_z-of_z f))

-- what an accepted weekday says of the count
pub record Known (z d : ℤ) : Type 0 where
  pub inside : outside first_count last_count z ≡ false
  pub weekday_is : d ≡ pos (since base_count z % 7 + 1)
  pub small : since base_count z ≤ to_day

pub known : (z d : ℤ) → value d ≡ weekday_answer z → Known z d
unfolding weekday_answer
known z d e =
    let p = passes (outside first_count last_count z) 4 (value (weekday z)) e in
    let n = since base_count z in
    record {
      inside = p.0;
      weekday_is = same_value p.1 ∙ ap weekday (sym (is base_count first_count last_count refl refl z p.0)) ∙ weekday_at n;
      small = to base_count first_count last_count refl refl z p.0;
    }

-- the year and the week of its Thursday make its week date
module _ {z d : ℤ} (k : Known z d) (year week : ℕ) (i : InYear (thursday_at (since base_count z)) year)
    (w : week ≡ (thursday_at (since base_count z) - first_day year) / 7 + 1) where
  pub year_small : year ≤ to_year + 1
  year_small = year_bound (thursday_at (since base_count z)) year i (omega (arith, k.small))

  pub week_small : week ≤ to_day + 4
  week_small = omega (arith, k.small, w)

  pub week_accepts : value (week_date (base_year +ℤ pos year) (pos week) d) ≡ week_answer z
  unfolding week_answer
  week_accepts =
      let n = since base_count z in
      ap value
      ((λ j. week_date (base_year +ℤ pos year) (pos (w j)) (k.weekday_is j)) ∙ sym (week_date_at n year i)
      ∙ ap week_date_of (is base_count first_count last_count refl refl z k.inside))
      ∙ ap (λ t. cond t (refused 4) (value (week_date_of z))) (sym k.inside)
