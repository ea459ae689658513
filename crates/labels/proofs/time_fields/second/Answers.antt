use Rattle.std.proofs.Common.{arith}
use Rattle.labels.proofs.Records.{seconds_are}
use Rattle.labels.proofs.time_fields.second.Goals as goal

pub returns : goal.returns
returns c = let h = c.requires in seconds_are c.args.rest (omega arith)
