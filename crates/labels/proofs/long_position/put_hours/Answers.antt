use Rattle.std.proofs.Common.{◌%◌, arith}
use Rattle.labels.proofs.DigitWords.{four_below}
use Rattle.labels.proofs.Positions.{two_to_five, hours_begin}
use Rattle.labels.proofs.long_position.put_hours.Goals as goal

pub overflow_add-text-2 : goal.overflow_add-text-2
overflow_add-text-2 c = omega (arith, four_below (c.args.hours % 10000) c.four.ensures)

pub overflow_sub-count : goal.overflow_sub-count
overflow_sub-count c = omega (arith, two_to_five c.args.hours)

pub returns : goal.returns
returns c =
    let s = c.before.before.before.before.before.before in
    hours_begin s.args.hours s.requires.0.1 s.args.out.now s.requires.1 s.requires.0.0 c.four.ensures c.store.ensures
