-- What a private function answers, for proofs and private contracts only.
use Rattle.std.specs.Prelude.{ℕ, cond, ℤ, Result}
use Rattle.refusal.specs.Outcome.{Outcome, value, refused, outcome, map_value}
use Rattle.refusal.specs.declared.Refusal.{Refusal}
use Rattle.numbers.specs.Range.{outside, since}
use Rattle.week.specs.Answers.{first_week_year, last_week_year}
use Rattle.week.specs.Closed.{base_year}
use Rattle.week.specs.declared.week_year.WeekYear.{WeekYear}

-- the number of the week year that a test hands back
abbrev pub year_outcome : Result WeekYear Refusal → Outcome ℕ
year_outcome result = map_value (λ (y : WeekYear). y.number) (outcome result)

-- 1 for a week year outside the range, else the year counted from the base
unfoldable pub year_answer : (year : ℤ) → Outcome ℕ
year_answer year = cond (outside first_week_year last_week_year year) (refused 1) (value (since base_year year))
