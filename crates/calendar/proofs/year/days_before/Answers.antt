use Rattle.calendar.specs.Gregorian.{days_before}
use Rattle.calendar.proofs.Months.{table_entry}
use mathlib.Core.Path.{refl}
use native.Mathlib.Omega.{arith}
use Rattle.calendar.proofs.year.days_before.Goals as goal

pub returns : goal.returns
unfolding days_before
returns c = let r = table_entry c.args.month.number c.args.month.in_year.0 c.args.month.in_year.1 in (refl, omega (arith, r.0, r.1))
