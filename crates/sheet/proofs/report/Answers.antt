use mathlib.Core.Path.{ap, ◌∙◌}
use Rattle.refusal.specs.Outcome.{value}
use Rattle.text.proofs.Writing.{renamed}
use Rattle.sheet.specs.Report.{report_text}
use Rattle.sheet.proofs.LineTexts.{report_refused, report_lines}
use Rattle.sheet.proofs.report.Goals as goal

pub returns-in-Ok : goal.returns-in-Ok
returns-in-Ok c =
    let s = c.in-Ok.sheet in
    let both = renamed c.args.out.now (ap value (report_lines s.bytes.now s.is_read ∙ ap report_text c.in-Ok.ensures)) (c.put_report.ensures.answer, c.put_report.ensures.buffer) in record { answer = both.0; buffer = both.1 }

pub returns-in-Err : goal.returns-in-Err
returns-in-Err c =
    let both = renamed c.args.out.now (ap value (report_refused c.args.sheet.now c.in-Err.ensures)) (c.put_refused.ensures.answer, c.put_refused.ensures.buffer) in record { answer = both.0; buffer = both.1 }
