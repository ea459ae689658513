use Rattle.std.proofs.Common.{arith}
use Rattle.labels.proofs.DigitWords.{pairs_small, pairs_digits}
use Rattle.labels.proofs.digits.three_pairs.Goals as goal

pub overflow_mul-result-2 : goal.overflow_mul-result-2
overflow_mul-result-2 c = let h = c.requires in omega (arith, pairs_small c.args.a 0 c.args.b 0 c.args.c h.0 h.1.0 h.1.1)

pub overflow_sub-result : goal.overflow_sub-result
overflow_sub-result c = let h = c.requires in pairs_small c.args.a 0 c.args.b 0 c.args.c h.0 h.1.0 h.1.1

pub returns : goal.returns
returns c =
    let a = c.args in
    let h = c.requires in
    pairs_digits a.a a.first a.b a.second a.c h.0 h.1.0 h.1.1
