-- A year that is tested, and its leap flag.
use Prim.Native.Nat.{ℕ}
use mathlib.Core.Path.{◌≡◌, sym, ap, ◌∙◌}
use mathlib.Core.Bool.{Bool, cond}
use lib.IntN.{ℤ}
use mir.Syntax.{w64}
use mir.Val.{SFits, to_z, of_z}
use mir.Facts.{to_z-of_z}
use Rattle.refusal.specs.Outcome.{value, refused}
use Rattle.refusal.proofs.Outcomes.{refuses, not_refused}
use Rattle.numbers.specs.Range.{outside}
use Rattle.calendar.specs.Range.{first_year, last_year}
use Rattle.calendar.specs.Gregorian.{leap_year}
use Rattle.calendar.specs.Answers.{leap_answer}
use Rattle.calendar.specs.Checked.{year_answer}
use Rattle.calendar.specs.Closed.{leapℕ}
use Rattle.calendar.proofs.Leap.{leap_public}
use Rattle.calendar.proofs.Tests.{year_passes}

-- a refused year has no flag
pub leap_refuses : (year : ℤ) (k : ℕ) → SFits w64 year → refused k ≡ year_answer (to_z w64 (of_z w64 year)) → refused k ≡ leap_answer year
unfolding year_answer leap_answer
leap_refuses year k f e = refuses (outside first_year last_year year) 1 _ _ (not_refused _ _) (e ∙ ap year_answer (to_z-of_z f))

-- an accepted one has that of its place among the years from base_year on
pub leap_accepts :
    (year : ℤ) (y : ℕ) (b : Bool) → SFits w64 year → value y ≡ year_answer (to_z w64 (of_z w64 year)) → b ≡ leapℕ y → value b ≡ leap_answer year
unfolding leap_answer
leap_accepts year y b f e p =
    let t = year_passes year y (e ∙ ap year_answer (to_z-of_z f)) in
    ap value (p ∙ sym (leap_public y) ∙ ap leap_year t.1)
    ∙ ap (λ t. cond t (refused 1) (value (leap_year year))) (sym t.0)

-- what a year's flag needs
pub ruleset leap_rules = (leap_refuses, leap_accepts)
