use Rattle.std.proofs.Common.{rules}
use Rattle.labels.proofs.Instants.{fields_narrow}
use Rattle.labels.proofs.rfc3339.write_instant.Goals as goal

pub write_fields-requires : goal.write_fields-requires
write_fields-requires c = search (rules, fields_narrow c.args.instant)
