use Rattle.std.proofs.Common.{arith}
use Rattle.labels.proofs.WeekTexts.{week_room}
use Rattle.labels.proofs.iso_week.write_week.Goals as goal

pub write_date-requires : goal.write_date-requires
write_date-requires c = grind (arith, week_room c.args.days)
