use Prim.Native.Nat.{ℕ, ◌+◌, ◌-◌, ◌*◌, ◌/◌, ◌%◌}
use mathlib.Core.Path.{◌≡◌, refl, ap, ◌∙◌}
use native.Mathlib.Omega.{arith}
use Rattle.calendar.specs.Closed.{from_march}
use Rattle.calendar.proofs.Conversion.{march_day, date_made}
use Rattle.calendar.proofs.plain.date_of.Goals as goal

-- the day of the month, counted from 1
day_from_one : (k : ℕ) → k + 1 - from_march ((5 * k + 461) / 153) ≡ (5 * k + 461) % 153 / 5 + 1
day_from_one k = omega arith

pub returns : goal.returns
returns c =
    let n = c.args.day.number in
    let k = march_day n in
    date_made n c.args.day.in_range refl refl (ap (λ s. k + 1 - s) c.days_from_march.ensures ∙ day_from_one k)
