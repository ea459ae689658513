use Rattle.std.proofs.Common.{nat_abs, arith}
use Rattle.std.proofs.lemmas.Grind.{common_steps}
use Rattle.labels.proofs.WeekLaws.{week_label_length}
use Rattle.labels.proofs.iso_week.write_date.Goals as goal

pub returns-then-out-lt-LENGTH-clause-answer : goal.returns-then-out-lt-LENGTH-clause-answer
returns-then-out-lt-LENGTH-clause-answer c =
    let d = c.args.date in
    grind (arith, common_steps, week_label_length (nat_abs d.year) (nat_abs d.week) (nat_abs d.weekday))

pub returns-then-out-lt-LENGTH-clause-buffer : goal.returns-then-out-lt-LENGTH-clause-buffer
returns-then-out-lt-LENGTH-clause-buffer c =
    let d = c.args.date in
    grind (arith, common_steps, week_label_length (nat_abs d.year) (nat_abs d.week) (nat_abs d.weekday))
