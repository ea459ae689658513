use Rattle.std.proofs.Common.{arith}
use Rattle.std.proofs.lemmas.Grind.{common_steps}
use Rattle.labels.proofs.Laws.{label_length_lem}
use Rattle.labels.proofs.rfc3339.write_fields.Goals as goal

pub returns-then-out-lt-LENGTH-clause-answer : goal.returns-then-out-lt-LENGTH-clause-answer
returns-then-out-lt-LENGTH-clause-answer c = grind (arith, common_steps, label_length_lem c.args.fields)

pub returns-then-out-lt-LENGTH-clause-buffer : goal.returns-then-out-lt-LENGTH-clause-buffer
returns-then-out-lt-LENGTH-clause-buffer c = grind (arith, common_steps, label_length_lem c.args.fields)
