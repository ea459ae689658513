-- An accepted date and the time of day make the fields.
use Rattle.std.proofs.Common.{sym, ap, ◌∙◌, rules}
use mir.Facts.{to_z-of_z}
use mir.Val.{SFits}
use mir.Syntax.{w64}
use Rattle.calendar.specs.Answers.{civil_answer}
use Rattle.numbers.proofs.Machine.{read}
use Rattle.instant.specs.Answers.{split_answer}
use Rattle.instant.proofs.Ranges.{split_accepts}
use Rattle.instant.proofs.split_instant.Goals as goal

pub returns : goal.returns
returns c =
    let d : SFits w64 c.day.result = search rules in
    split_accepts (read c.args.instant) c.day.result c.in_ok-date.date c.time.result c.fields_at.result
    (sym c.outside.ensures ∙ c.if-outside.false) c.day.ensures (c.in_ok-date.ensures ∙ ap civil_answer (to_z-of_z d)) c.time.ensures.0
    c.fields_at.ensures
    ∙ ap split_answer (to_z-of_z c.ranges.instant)
