-- A count that is tested, and what is made of the day that it is.
use Prim.Native.Nat.{ℕ, ◌+◌, ◌%◌}
use mathlib.Core.Path.{◌≡◌, sym, ap, ◌∙◌}
use mathlib.Core.Bool.{cond}
use native.Mathlib.Omega.{arith}
use lib.IntN.{ℤ, pos}
use mir.Syntax.{w64}
use mir.Val.{SFits, to_z, of_z}
use mir.Facts.{to_z-of_z, to_z_pos}
use Rattle.refusal.specs.Outcome.{value, refused}
use Rattle.refusal.proofs.Outcomes.{passes, refuses, not_refused, same_value}
use Rattle.numbers.specs.Range.{outside, since}
use Rattle.numbers.proofs.Integers.{add_since, outside_no}
use Rattle.calendar.specs.Range.{first_count, last_count}
use Rattle.calendar.specs.Gregorian.{date_after}
use Rattle.calendar.specs.Count.{date_of_count, weekday}
use Rattle.calendar.specs.Answers.{civil_answer, weekday_answer}
use Rattle.calendar.specs.Checked.{range_day_answer}
use Rattle.calendar.proofs.Weekdays.{weekday_after}

-- a refused count has no date
pub civil_refuses : (z : ℤ) (k : ℕ) → SFits w64 z → refused k ≡ range_day_answer (to_z w64 (of_z w64 z)) → refused k ≡ civil_answer z
unfolding civil_answer range_day_answer
civil_refuses z k f e =
    refuses (outside first_count last_count z) 4 _ _ (not_refused _ _) (e ∙ ap range_day_answer (to_z-of_z f))

-- an accepted one has the date of its day
pub civil_accepts : (z : ℤ) (n : ℕ) → SFits w64 z → value n ≡ range_day_answer (to_z w64 (of_z w64 z)) → value (date_after n) ≡ civil_answer z
unfolding civil_answer range_day_answer date_of_count
civil_accepts z n f e =
    let p = passes (outside first_count last_count z) 4 _ (e ∙ ap range_day_answer (to_z-of_z f)) in
    ap value (ap date_after (same_value p.1)) ∙ ap (λ t. cond t (refused 4) (value (date_of_count z))) (sym p.0)

-- what a count's date needs
pub ruleset civil_rules = (civil_refuses, civil_accepts)

-- and a refused one no weekday
pub weekday_refuses : (z : ℤ) (k : ℕ) → SFits w64 z → refused k ≡ range_day_answer (to_z w64 (of_z w64 z)) → refused k ≡ weekday_answer z
unfolding weekday_answer range_day_answer
weekday_refuses z k f e =
    refuses (outside first_count last_count z) 4 _ _ (not_refused _ _) (e ∙ ap range_day_answer (to_z-of_z f))

-- an accepted one has the weekday of its day, and the first day comes five days after a Monday
pub weekday_accepts :
    (z : ℤ) (n s r : ℕ) → SFits w64 z → value n ≡ range_day_answer (to_z w64 (of_z w64 z)) → s ≡ 5 + n → r ≡ s % 7 + 1 →
    value (to_z w64 r) ≡ weekday_answer z
unfolding weekday_answer range_day_answer weekday
weekday_accepts z n s r f e q p =
    let h = passes (outside first_count last_count z) 4 _ (e ∙ ap range_day_answer (to_z-of_z f)) in
    let d : n ≡ since first_count z = same_value h.1 in
    let a = add_since first_count z (outside_no first_count last_count z h.0).0 in
    ap value
    (to_z_pos w64 (omega (arith, p)) ∙ ap pos (p ∙ omega (arith, q, d)) ∙ sym (weekday_after first_count (since first_count z)) ∙ ap weekday a)
    ∙ ap (λ t. cond t (refused 4) (value (weekday z))) (sym h.0)

-- what a count's weekday needs
pub ruleset weekday_rules = (weekday_refuses, weekday_accepts)
