use native.Mathlib.Omega.{arith}
use Rattle.numbers.proofs.Machine.{pos_fits}
use Rattle.calendar.proofs.Dates.{checked_day_small}
use Rattle.calendar.proofs.day_of_year.Goals as goal

pub overflow_add-result : goal.overflow_add-result
overflow_add-result c = record { fits = omega (arith, checked_day_small c.in_ok-checked.checked) }

pub overflow_cast-result : goal.overflow_cast-result
overflow_cast-result c = pos_fits (omega (arith, checked_day_small c.in_ok-checked.checked))
