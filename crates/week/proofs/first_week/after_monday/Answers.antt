-- By the record of the multiplier, which the checker accepts.
use Rattle.calendar.proofs.Weekdays.{by_sevenths}
use native.Mathlib.Omega.{arith}
use Rattle.week.proofs.first_week.after_monday.Goals as goal

pub returns : goal.returns
returns c = let h = c.requires in by_sevenths c.args.n (omega arith)
