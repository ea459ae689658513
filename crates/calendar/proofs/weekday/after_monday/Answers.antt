-- By the record of the multiplier, which the checker accepts.
use Rattle.calendar.proofs.Weekdays.{by_sevenths}
use Rattle.calendar.proofs.weekday.after_monday.Goals as goal

pub returns : goal.returns
returns c = by_sevenths c.args.n c.requires
