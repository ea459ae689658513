-- By the record of the multiplier, which the checker accepts.
use native.Mathlib.Omega.{arith}
use Rattle.calendar.proofs.Quotients.{january_product}
use Rattle.calendar.proofs.fast.january_year.Goals as goal

pub returns : goal.returns
returns c = let h = c.requires in january_product c.args.d (omega arith)
