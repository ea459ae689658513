-- The year, the week and the weekday are tested; then there is one day, which may lie outside the range.
use mathlib.Core.Path.{◌≡◌, sym, ap, ◌∙◌}
use mathlib.Core.Bool.{cond}
use native.Mathlib.Omega.{arith}
use lib.IntN.{pos, ◌+ℤ◌, +ℤ_comm}
use mir.Syntax.{w64}
use mir.Val.{to_z, SFits}
use mir.Facts.{to_z-of_z}
use borrow.Author.Rules.{rules}
use Rattle.refusal.specs.Outcome.{value, refused}
use Rattle.numbers.proofs.Machine.{read, add_first_is}
use Rattle.week.specs.Answers.{in_range, week_days_answer}
use Rattle.week.specs.Closed.{base_count}
use Rattle.week.proofs.Answers.{week_refuses, weekday_refuses, week_within_53, weekday_within, day_decides}
use Rattle.week.proofs.days_from_week.Goals as goal
use Rattle.week.proofs.days_from_week.Goals.{then-not-has_week-via-then-not-has_week, then-not-has_week-via-else-not-has_week+then-outside, After-day, Start}

-- the fields of the date are what code reads of them
fields_read :
    (c : Start) → let d = c.args.date in
    week_days_answer (read d.year) (read d.week) (read d.weekday) ≡ week_days_answer d.year d.week d.weekday
fields_read c =
    let y : SFits w64 c.args.date.year = search rules in
    let w : SFits w64 c.args.date.week = search rules in
    let d : SFits w64 c.args.date.weekday = search rules in
    λ i. week_days_answer (to_z-of_z y i) (to_z-of_z w i) (to_z-of_z d i)

pub returns-then-not-has_week : goal.returns-then-not-has_week
returns-then-not-has_week c =
    (elim c.then-not-has_week.branch [
      | then-not-has_week-via-then-not-has_week t ↦
          week_refuses _ _ _ _ c.in_ok-year.ensures (sym c.has_week.ensures ∙ t.if-not-has_week.true)
      | then-not-has_week-via-else-not-has_week+then-outside t ↦
          weekday_refuses _ _ _ _ c.in_ok-year.ensures (sym t.outside.ensures ∙ t.if-outside.true)
    ])
    ∙ fields_read (goal.at.returns-then-not-has_week c).Start

pub day-requires : goal.day-requires
day-requires c =
    let f = c.args.date in
    let e = c.in_ok-year.ensures in
    let h = sym c.has_week.ensures ∙ c.if-not-has_week.false in
    let k = sym c.outside.ensures ∙ c.if-outside.false in
    let w = week_within_53 (read f.year) (read f.week) (read f.weekday) c.in_ok-year.year.number e h k in
    let d = weekday_within (read f.year) (read f.week) (read f.weekday) c.in_ok-year.year.number e h k in
    ((w.low, w.high), (d.low, d.high))

-- the answer of the day
answer_is : (c : After-day) → let f = c.args.date in
    in_range (read (to_z w64 c.day.result +ℤ base_count)) ≡ week_days_answer (read f.year) (read f.week) (read f.weekday)
answer_is c =
    let f = c.args.date in
    let h = sym c.has_week.ensures ∙ c.if-not-has_week.false in
    let k = sym c.outside.ensures ∙ c.if-outside.false in
    let l = c.day.ensures.1 in
    ap in_range
    (add_first_is base_count c.day.result (omega arith) ∙ +ℤ_comm (pos c.day.result) base_count
    ∙ ap (λ n. base_count +ℤ pos n) c.day.ensures.0)
    ∙ day_decides (read f.year) (read f.week) (read f.weekday) c.in_ok-year.year.number c.in_ok-year.ensures h k

pub returns-then-outside-2 : goal.returns-then-outside-2
returns-then-outside-2 c =
    let sum = read (to_z w64 c.day.result +ℤ base_count) in
    ap (λ t. cond t (refused 4) (value sum)) (sym (sym c.outside-2.ensures ∙ c.if-outside-2.true))
    ∙ answer_is (goal.at.returns-then-outside-2 c).After-day ∙ fields_read (goal.at.returns-then-outside-2 c).Start

pub returns : goal.returns
returns c =
    let sum = read (to_z w64 c.day.result +ℤ base_count) in
    ap (λ t. cond t (refused 4) (value sum)) (sym (sym c.outside-2.ensures ∙ c.if-outside-2.false))
    ∙ answer_is (goal.at.returns c).After-day ∙ fields_read (goal.at.returns c).Start
