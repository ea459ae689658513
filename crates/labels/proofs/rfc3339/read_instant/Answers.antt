-- The date and the time that are read make the instant that the date's and the time's fields make.
use Rattle.std.proofs.Common.{◌≡◌, ◌+◌, ◌-◌, ◌*◌, pos, ap, ◌∙◌, arith, length, drop, take_all, length-drop, SFits, w64, to_z-of_z, rules}
use Rattle.std.proofs.lemmas.Result.{err_from_is_err_and}
use lib.IntN.{◌+ℤ◌, ◌*ℤ◌}
use Rattle.instant.specs.Units.{per_day}
use Rattle.instant.proofs.Joined.{join_refuses_date, join_refuses_time, midnight_of_date_fits, join_fits, join_accepts}
use Rattle.labels.specs.Rfc3339.{read_answer}
use Rattle.labels.specs.Parts.{joined_values, read_time}
use Rattle.labels.proofs.rfc3339.read_instant.Goals as goal
use Rattle.labels.proofs.rfc3339.read_instant.Goals.{In_ok-clock, In_ok-time}

told : (c : In_ok-clock) → let date = c.in_ok-date.date in
    joined_values (100 * date.century + date.year) date.month date.day c.in_ok-clock.clock c.in_ok-clock.fraction ≡ read_answer c.args.label.now
told c =
    let date = c.in_ok-date.date in
    let label = c.args.label.now in
    c.in_ok-clock.ensures.told (100 * date.century + date.year) date.month date.day
    ∙ ap (read_time (100 * date.century + date.year) date.month date.day) (take_all (length label - 10) (drop 10 label) (omega (arith, length-drop 10 label)))
    ∙ c.in_ok-date.ensures

days_fit : (c : In_ok-time) → SFits w64 c.in_ok-days.days
days_fit c = search rules

time_fits : (c : In_ok-time) → SFits w64 c.in_ok-time.time
time_fits c = search rules

product_fits : (c : In_ok-time) → SFits w64 (c.in_ok-days.days *ℤ pos per_day)
product_fits c = midnight_of_date_fits _ _ _ _ c.in_ok-days.ensures

sum_fits : (c : In_ok-time) → SFits w64 (c.in_ok-days.days *ℤ pos per_day +ℤ c.in_ok-time.time)
sum_fits c = join_fits _ _ _ _ c.in_ok-days.ensures _ _ _ _ _ c.in_ok-time.ensures

pub returns-in_err-days : goal.returns-in_err-days
returns-in_err-days c =
    let p = err_from_is_err_and c.from_residual-in_err-days.result c.from_residual-in_err-days.ensures.1 in
    rw (p.1, p.2) (join_refuses_date _ _ _ _ _ _ _ _ c.in_err-days.ensures ∙ told (goal.at.returns-in_err-days c).In_ok-clock)

pub returns-in_err-time : goal.returns-in_err-time
returns-in_err-time c =
    let p = err_from_is_err_and c.from_residual-in_err-time.result c.from_residual-in_err-time.ensures.1 in
    rw (p.1, p.2) (join_refuses_time _ _ _ _ _ _ _ _ c.in_ok-days.ensures _ c.in_err-time.ensures ∙ told (goal.at.returns-in_err-time c).In_ok-clock)

pub overflow_mul-result : goal.overflow_mul-result
overflow_mul-result c = rw (to_z-of_z (days_fit c)) (product_fits c)

pub overflow_add-result : goal.overflow_add-result
overflow_add-result c = rw (to_z-of_z (days_fit c), to_z-of_z (product_fits c), to_z-of_z (time_fits c)) (sum_fits c)

pub returns : goal.returns
returns c =
    rw (to_z-of_z (days_fit c), to_z-of_z (product_fits c), to_z-of_z (time_fits c), to_z-of_z (sum_fits c))
    (join_accepts _ _ _ _ c.in_ok-days.ensures _ _ _ _ _ c.in_ok-time.ensures ∙ told (goal.at.returns c).In_ok-clock)
