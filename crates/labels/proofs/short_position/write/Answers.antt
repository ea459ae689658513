use Rattle.std.proofs.Common.{ap, ◌∙◌, arith}
use Rattle.text.specs.Filled.{filled}
use Rattle.text.proofs.Writing.{all_written}
use Rattle.labels.specs.Webvtt.{position_text}
use Rattle.labels.proofs.Positions.{short_length, short_text_lem}
use Rattle.labels.proofs.short_position.write.Goals as goal

pub returns-clause-buffer : goal.returns-clause-buffer
returns-clause-buffer c =
    let a = c.args in
    let l = short_length a.n c.requires in
    let e = c.put.ensures ∙ ap (λ text. filled 0 text a.out.now) (short_text_lem a.n c.requires) in
    (all_written (position_text a.n) a.out.now {n = 12} (omega (arith, l)) (omega (arith, l)) e).1
