use Rattle.std.proofs.Common.{arith}
use Rattle.labels.proofs.Records.{hours_are}
use Rattle.labels.proofs.time_fields.hours.Goals as goal

pub returns : goal.returns
returns c = let h = c.requires in hours_are c.args.minutes (omega arith)
