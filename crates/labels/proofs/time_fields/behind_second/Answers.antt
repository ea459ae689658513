use Rattle.std.proofs.Common.{arith}
use Rattle.labels.proofs.Records.{behind_seconds}
use Rattle.labels.proofs.time_fields.behind_second.Goals as goal

pub returns : goal.returns
returns c = let h = c.requires in behind_seconds c.args.rest (omega arith)
