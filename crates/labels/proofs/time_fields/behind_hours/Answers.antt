use Rattle.std.proofs.Common.{arith}
use Rattle.labels.proofs.Records.{behind_hours}
use Rattle.labels.proofs.time_fields.behind_hours.Goals as goal

pub returns : goal.returns
returns c = let h = c.requires in behind_hours c.args.minutes (omega arith)
