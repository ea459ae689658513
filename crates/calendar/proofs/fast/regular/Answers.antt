-- By the record of the multiplier, which the checker accepts.
use Rattle.calendar.proofs.Quotients.{coded_is}
use Rattle.calendar.proofs.fast.regular.Goals as goal

pub returns : goal.returns
returns c = coded_is c.args.n c.requires
