use Rattle.std.proofs.Common.{arith}
use Rattle.std.proofs.lemmas.Grind.{common_steps}
use Rattle.labels.proofs.StampRead.{few_bytes, wrong_front, wrong_twelve, last_below, many_hours, all_hours}
use Rattle.labels.proofs.timestamp.read_any.Goals as goal

pub returns-then-n-ne9 : goal.returns-then-n-ne9
returns-then-n-ne9 c = few_bytes c.args.text.now c.if-n-lt12.true c.if-n-ne9.true

pub returns-in_err-hundreds : goal.returns-in_err-hundreds
returns-in_err-hundreds c = grind (arith, common_steps, wrong_front c.args.text.now c.if-n-lt12.false)

pub returns-in_err-last : goal.returns-in_err-last
returns-in_err-last c = grind (arith, common_steps, wrong_twelve c.args.text.now c.if-n-lt12.false)

pub returns-then-hundreds-gt-LAST_HUNDRED : goal.returns-then-hundreds-gt-LAST_HUNDRED
returns-then-hundreds-gt-LAST_HUNDRED c = grind (arith, many_hours c.args.text.now c.if-n-lt12.false)

pub overflow_add-result : goal.overflow_add-result
overflow_add-result c = grind (arith, last_below c.args.text.now c.if-n-lt12.false)

pub returns : goal.returns
returns c = grind (arith, all_hours c.args.text.now c.if-n-lt12.false)
