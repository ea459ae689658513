use Rattle.std.proofs.Common.{sym, ◌∙◌}
use Rattle.labels.proofs.CueUsual.{usual_line}
use Rattle.labels.proofs.webvtt.usual_positions.Goals as goal

pub returns-in-Ok-Ok : goal.returns-in-Ok-Ok
returns-in-Ok-Ok c =
    usual_line c.args.line.now c.args.size c.if-line-size.false (sym c.has_gap.ensures ∙ c.if-not-has_gap.false) c.in-Ok-Ok.ensures c.in-Ok-Ok.ensures'
