use Rattle.std.proofs.Common.{arith}
use Rattle.labels.proofs.Records.{hundreds_are}
use Rattle.labels.proofs.digits.hundreds.Goals as goal

pub returns : goal.returns
returns c = let h = c.requires in hundreds_are c.args.n (omega arith)
