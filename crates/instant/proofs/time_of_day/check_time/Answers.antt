-- Tested fields make products and sums that fit.
use Rattle.std.proofs.Common.{◌≡◌, refl, Bool, true, false, ap, sym, ◌∙◌, rules, cond}
use mir.Facts.{to_z-of_z}
use mir.Val.{SFits}
use mir.Syntax.{w64}
use lib.IntN.{ℤ}
use Rattle.refusal.specs.Outcome.{value, refused}
use Rattle.numbers.proofs.Machine.{read}
use Rattle.instant.specs.Answers.{bad_time}
use Rattle.instant.specs.Checked.{time_answer}
use Rattle.instant.specs.Instant.{time_of_fields}
use Rattle.instant.proofs.Joined.{time_read}
use Rattle.instant.proofs.Times.{NaturalTime, natural, hours_fit, minutes_fit, seconds_fit, to_minutes_fits, to_seconds_fits, time_fits}
use Rattle.instant.proofs.time_of_day.check_time.Goals as goal
use Rattle.instant.proofs.time_of_day.check_time.Goals.{Else-outside-4, then-outside-via-then-outside, then-outside-via-else-outside+then-outside-2, then-outside-via-else-outside+else-outside-2+then-outside-3, then-outside-via-else-outside+else-outside-2+else-outside-3+then-outside-4}

-- what the tests decide
decided :
    (hour minute second fraction : ℤ) {t : Bool} → bad_time hour minute second fraction ≡ t →
    cond t (refused 5) (value (time_of_fields hour minute second fraction)) ≡ time_answer hour minute second fraction
unfolding time_answer
decided hour minute second fraction h = ap (λ t. cond t (refused 5) (value (time_of_fields hour minute second fraction))) (sym h)

inside :
    (c : Else-outside-4) → let f = c.args.fields in
    bad_time (read f.hour) (read f.minute) (read f.second) (read f.millisecond) ≡ false
inside c = search rules

tested :
    (c : Else-outside-4) → let f = c.args.fields in
    NaturalTime (read f.hour) (read f.minute) (read f.second) (read f.millisecond)
tested c = natural _ _ _ _ (inside c)

pub overflow_mul-result : goal.overflow_mul-result
overflow_mul-result c = hours_fit (tested (goal.at.overflow_mul-result c).Else-outside-4)

pub overflow_mul-result-2 : goal.overflow_mul-result-2
overflow_mul-result-2 c = minutes_fit (tested (goal.at.overflow_mul-result-2 c).Else-outside-4)

pub overflow_mul-result-3 : goal.overflow_mul-result-3
overflow_mul-result-3 c = seconds_fit (tested (goal.at.overflow_mul-result-3 c).Else-outside-4)

pub overflow_add-result : goal.overflow_add-result
overflow_add-result c =
    let t = tested (goal.at.overflow_add-result c).Else-outside-4 in
    rw (to_z-of_z (hours_fit t), to_z-of_z (minutes_fit t)) (to_minutes_fits t)

pub overflow_add-result-2 : goal.overflow_add-result-2
overflow_add-result-2 c =
    let t = tested (goal.at.overflow_add-result-2 c).Else-outside-4 in
    rw (to_z-of_z (hours_fit t), to_z-of_z (minutes_fit t), to_z-of_z (to_minutes_fits t), to_z-of_z (seconds_fit t)) (to_seconds_fits t)

pub overflow_add-result-3 : goal.overflow_add-result-3
unfolding time_of_fields
overflow_add-result-3 c =
    let t = tested (goal.at.overflow_add-result-3 c).Else-outside-4 in
    rw (to_z-of_z (hours_fit t), to_z-of_z (minutes_fit t), to_z-of_z (to_minutes_fits t), to_z-of_z (seconds_fit t), to_z-of_z (to_seconds_fits t))
    (time_fits t)

pub returns : goal.returns
unfolding time_of_fields
returns c =
    let k = (goal.at.returns c).Else-outside-4 in
    let t = tested k in
    let f = k.args.fields in
    let h : SFits w64 f.hour = search rules in
    let m : SFits w64 f.minute = search rules in
    let s : SFits w64 f.second = search rules in
    let l : SFits w64 f.millisecond = search rules in
    rw (
      to_z-of_z (hours_fit t),
      to_z-of_z (minutes_fit t),
      to_z-of_z (to_minutes_fits t),
      to_z-of_z (seconds_fit t),
      to_z-of_z (to_seconds_fits t),
      to_z-of_z (time_fits t),
    )
    (decided (read f.hour) (read f.minute) (read f.second) (read f.millisecond) (inside k) ∙ time_read f.hour f.minute f.second f.millisecond h m s l)

pub returns-then-outside : goal.returns-then-outside
returns-then-outside c =
    let f = c.args.fields in
    let h : SFits w64 f.hour = search rules in
    let m : SFits w64 f.minute = search rules in
    let s : SFits w64 f.second = search rules in
    let l : SFits w64 f.millisecond = search rules in
    let bad : bad_time (read f.hour) (read f.minute) (read f.second) (read f.millisecond) ≡ true =
    elim c.then-outside.branch [
      | then-outside-via-then-outside w ↦ rw (sym c.outside.ensures ∙ w.if-outside.true) refl
      | then-outside-via-else-outside+then-outside-2 w ↦
          rw (sym c.outside.ensures ∙ w.if-outside.false, sym w.outside-else-outside.ensures ∙ w.if-outside-2.true) refl
      | then-outside-via-else-outside+else-outside-2+then-outside-3 w ↦
          rw (
            sym c.outside.ensures ∙ w.if-outside.false,
            sym w.outside-else-outside.ensures ∙ w.if-outside-2.false,
            sym w.outside-else-outside-2.ensures ∙ w.if-outside-3.true,
          ) refl
      | then-outside-via-else-outside+else-outside-2+else-outside-3+then-outside-4 w ↦
          rw (
            sym c.outside.ensures ∙ w.if-outside.false,
            sym w.outside-else-outside.ensures ∙ w.if-outside-2.false,
            sym w.outside-else-outside-2.ensures ∙ w.if-outside-3.false,
            sym w.outside-else-outside-3.ensures ∙ w.if-outside-4.true,
          ) refl
    ]
    in
    decided (read f.hour) (read f.minute) (read f.second) (read f.millisecond) bad ∙ time_read f.hour f.minute f.second f.millisecond h m s l
