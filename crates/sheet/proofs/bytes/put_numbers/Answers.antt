use Rattle.text.proofs.Filled.{filled_nothing}
use Rattle.sheet.proofs.NumberBytes.{one_more_number}
use Rattle.sheet.proofs.bytes.put_numbers.Goals as goal

pub loop-i-init : goal.loop-i-init
loop-i-init c = filled_nothing c.args.at c.args.out.now

pub loop-i-preserved : goal.loop-i-preserved
loop-i-preserved c = one_more_number c.args.at _ c.args.numbers.now c.args.out.now c.loop-i-test.true c.loop-i.invariant c.put_number.ensures
