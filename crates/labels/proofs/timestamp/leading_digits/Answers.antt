use Rattle.std.proofs.Common.{arith}
use Rattle.labels.proofs.StampRead.{leading_more}
use Rattle.labels.proofs.timestamp.leading_digits.Goals as goal

pub loop-byte-preserved : goal.loop-byte-preserved
loop-byte-preserved c =
    let i = c.loop-byte.invariant in (
      c.one_more-n.ensures.1,
      leading_more c.args.text.now c.loop-byte.byte-index (omega arith) i.1.0 i.1.1 c.one_more-n.ensures.0 c.is_ascii_digit-right.ensures.value,
    )
