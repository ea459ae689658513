use native.Mathlib.Omega.{arith}
use Rattle.numbers.proofs.Machine.{pos_fits}
use Rattle.day_table.proofs.Rule.{small}
use Rattle.calendar.proofs.DateByProducts.{date_is}
use Rattle.calendar.proofs.fast.date_of.Goals as goal

pub overflow_cast-result-2 : goal.overflow_cast-result-2
overflow_cast-result-2 c = pos_fits (omega (arith, c.month.ensures, (small c.day_of_year-k.result).0))

pub overflow_cast-result-3 : goal.overflow_cast-result-3
overflow_cast-result-3 c = pos_fits (omega (arith, c.day.ensures, (small c.day_of_year-k.result).1))

pub returns : goal.returns
returns c =
    date_is c.args.day.number c.args.day.in_range c.regular-d.ensures c.january_year.ensures c.day_of_year-k.ensures c.month.ensures c.day.ensures
