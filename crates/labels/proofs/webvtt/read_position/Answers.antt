use Rattle.std.proofs.Common.{ap, ◌∙◌, arith, w64}
use mir.Facts.{to_z_pos}
use Rattle.refusal.specs.Outcome.{value}
use Rattle.labels.proofs.StampNumbers.{answer_beyond, answer_value}
use Rattle.labels.proofs.webvtt.read_position.Goals as goal

pub returns-then-position : goal.returns-then-position
returns-then-position c = answer_beyond c.args.text.now c.in_ok-position.ensures c.if-position.true

pub returns : goal.returns
returns c =
    ap value (to_z_pos w64 {n = c.in_ok-position.position} (omega (arith, c.if-position.false)))
    ∙ answer_value c.args.text.now c.in_ok-position.ensures c.if-position.false
