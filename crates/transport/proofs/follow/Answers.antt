-- The clock goes on from an accepted position, and is kept on a refusal.
use mathlib.Core.Path.{sym, ◌∙◌}
use Rattle.std.proofs.Common.{to_z-of_z}
use Rattle.transport.proofs.Laws.{goes_on_from, refused_keeps}
use Rattle.transport.proofs.follow.Goals as goal

pub returns-in-Ok-clause-clock : goal.returns-in-Ok-clause-clock
returns-in-Ok-clause-clock c =
    let f = c.ranges.value in
    let e = simp to_z-of_z at c.in-Ok.ensures in
    c.clock.ensures ∙ sym (goes_on_from c.args.clock c.args.value _ (sym e))

pub returns-in-Err-clause-clock : goal.returns-in-Err-clause-clock
returns-in-Err-clause-clock c =
    let f = c.ranges.value in
    let e = simp to_z-of_z at c.in-Err.ensures in
    sym (refused_keeps c.args.clock c.args.value _ (sym e))
