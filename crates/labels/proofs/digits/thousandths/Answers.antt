use Rattle.std.proofs.Common.{◌*◌, ◌/◌, ◌%◌, ap, ◌∙◌, arith}
use lib.Bits.{bit_and, and_le_r}
use Rattle.labels.proofs.Thousandths.{small_values, product_number, number_small}
use Rattle.labels.proofs.digits.thousandths.Goals as goal

pub pairs-requires : goal.pairs-requires
pairs-requires c = omega (arith, small_values c.requires)

pub overflow_mul-result : goal.overflow_mul-result
overflow_mul-result c = omega (arith, and_le_r c.pairs.result 16711935)

pub returns : goal.returns
returns c =
    let t = c.requires in
    let e = ap (λ n. bit_and n 16711935 * 6553601 / 65536 % 65536) c.pairs.ensures ∙ product_number t in
    (e, omega (arith, e, number_small t))
