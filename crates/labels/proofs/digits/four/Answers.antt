use Rattle.std.proofs.Common.{arith}
use Rattle.labels.proofs.DigitWords.{four_small, four_digits}
use Rattle.labels.proofs.digits.four.Goals as goal

pub overflow_mul-result-2 : goal.overflow_mul-result-2
overflow_mul-result-2 c = let s = c.before in omega (arith, c.hundreds-high.ensures, four_small s.args.n s.requires c.hundreds-high.ensures)

pub overflow_sub-result : goal.overflow_sub-result
overflow_sub-result c = let s = c.before in four_small s.args.n s.requires c.hundreds-high.ensures

pub returns : goal.returns
returns c = let s = c.before in four_digits s.args.n s.requires c.hundreds-high.ensures
