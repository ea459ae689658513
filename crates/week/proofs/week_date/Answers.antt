use Rattle.std.proofs.Common.{◌≡◌, ℕ, ◌+◌, ◌-◌, ◌/◌, ◌%◌, ◌≤◌, sym, ap, ◌∙◌, subst, arith, pos, nat_abs}
use mir.Facts.{to_z-of_z, to_z_pos}
use mir.Syntax.{w64}
use lib.IntN.{◌+ℤ◌, +ℤ_comm}
use Rattle.refusal.specs.Outcome.{value}
use Rattle.numbers.specs.Range.{since}
use Rattle.numbers.proofs.Machine.{read, pos_fits, cast_pos, add_first, add_first_is}
use Rattle.calendar.specs.Answers.{weekday_answer}
use Rattle.week.specs.Answers.{week_answer}
use Rattle.week.specs.Week.{week_date}
use Rattle.week.specs.Closed.{base_year, base_count, to_year, to_day, InYear, first_day}
use Rattle.week.proofs.Years.{thursday_at}
use Rattle.week.proofs.Counts.{Known, known, year_small, week_small, week_accepts}
use Rattle.week.proofs.week_date.Goals as goal
use Rattle.week.proofs.week_date.Goals.{Start, After-days_from_base, After-of_day-thursday}

-- the count has a weekday
count_known : (c : Start) → Known (read c.args.days) c.args.weekday
count_known c = known _ _ (c.requires ∙ ap weekday_answer (sym (to_z-of_z c.ranges.days)))

weekday_read : (c : Start) → read c.args.weekday ≡ pos (since base_count (read c.args.days) % 7 + 1)
weekday_read c = to_z-of_z c.ranges.weekday ∙ (count_known c).weekday_is

pub days_from_base-requires : goal.days_from_base-requires
days_from_base-requires c = (count_known c).inside

pub overflow_cast-weekday : goal.overflow_cast-weekday
overflow_cast-weekday c =
    cast_pos w64 (since base_count (read c.args.days) % 7 + 1) (omega arith) (weekday_read (goal.at.overflow_cast-weekday c).Start)

-- the Thursday that the code hands on
module _ (c : After-days_from_base) where
  weekday_abs : nat_abs (read c.args.weekday) ≡ since base_count (read c.args.days) % 7 + 1
  weekday_abs = ap nat_abs (weekday_read c.before)

  thursday_is : c.days_from_base.result + 4 - nat_abs (read c.args.weekday) ≡ thursday_at (since base_count (read c.args.days))
  thursday_is = omega (arith, c.days_from_base.ensures.0, weekday_abs)

pub overflow_sub-days_from_base : goal.overflow_sub-days_from_base
overflow_sub-days_from_base c = omega (arith, weekday_abs c, c.days_from_base.ensures.0)

pub of_day-thursday-requires : goal.of_day-thursday-requires
of_day-thursday-requires c = omega (arith, thursday_is c, c.days_from_base.ensures)

-- its year and its week
module _ (c : After-of_day-thursday) where
  abbrev t : ℕ
  t = thursday_at (since base_count (read c.args.days))

  abbrev k : Known (read c.args.days) c.args.weekday
  k = count_known c.before.before

  year_is : InYear t c.of_day-thursday.result.year
  year_is = subst (λ n. InYear n c.of_day-thursday.result.year) (thursday_is c.before) c.of_day-thursday.ensures.0

  week_is : c.of_day-thursday.result.week ≡ (t - first_day c.of_day-thursday.result.year) / 7 + 1
  week_is = c.of_day-thursday.ensures.1 ∙ ap (λ n. (n - first_day c.of_day-thursday.result.year) / 7 + 1) (thursday_is c.before)

  year_le : c.of_day-thursday.result.year ≤ to_year + 1
  year_le = year_small k _ _ year_is week_is

  week_le : c.of_day-thursday.result.week ≤ to_day + 4
  week_le = week_small k _ _ year_is week_is

  accepts :
      value (week_date (base_year +ℤ pos c.of_day-thursday.result.year) (pos c.of_day-thursday.result.week) c.args.weekday) ≡ week_answer (read c.args.days)
  accepts = week_accepts k _ _ year_is week_is

pub overflow_cast-result : goal.overflow_cast-result
overflow_cast-result c = let l = year_le (goal.at.overflow_cast-result c).After-of_day-thursday in pos_fits (omega arith)

pub overflow_add-result : goal.overflow_add-result
overflow_add-result c =
    let l = year_le (goal.at.overflow_add-result c).After-of_day-thursday in
    add_first base_year c.of_day-thursday.result.year (omega arith)

pub returns : goal.returns
returns c =
    let o = (goal.at.returns c).After-of_day-thursday in
    let l = year_le o in
    let m = week_le o in
    let p = add_first_is base_year c.of_day-thursday.result.year (omega arith) ∙ +ℤ_comm (pos c.of_day-thursday.result.year) base_year in
    (λ i. value (week_date (p i) (to_z_pos w64 {n = c.of_day-thursday.result.week} (omega (arith, m)) i) (to_z-of_z c.ranges.weekday i))) ∙ accepts o
    ∙ ap week_answer (to_z-of_z c.ranges.days)
