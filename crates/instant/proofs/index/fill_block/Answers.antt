-- Between a first and a last instant of one day no instant has another day.
use Rattle.std.proofs.Common.{sym, ap, ◌∙◌, subst, rules, arith, pos, length, get_or}
use lib.ListN.{replicate}
use mir.Facts.{to_z-of_z}
use mir.Val.{SFits, to_z}
use mir.Syntax.{w32, w64}
use Rattle.numbers.proofs.Machine.{read}
use Rattle.instant.specs.Instant.{day_of}
use Rattle.instant.proofs.Blocks.{same_days}
use Rattle.instant.proofs.Ranges.{day_fits}
use Rattle.instant.proofs.index.fill_block.Goals as goal

pub returns-then-first-day : goal.returns-then-first-day
returns-then-first-day c =
    let s = c.args.instants.now in
    let n = length c.args.days.now in
    let f : SFits w64 c.day-first.result = search rules in
    let l : SFits w64 c.day.result = search rules in
    let at_first : SFits w64 (get_or s 0 (pos 0)) = search rules in
    let at_last : SFits w64 (get_or s 15 (pos 0)) = search rules in
    let first = to_z-of_z f ∙ c.day-first.ensures ∙ ap day_of (to_z-of_z at_first) in
    let last = to_z-of_z l ∙ c.day.ensures ∙ ap day_of (to_z-of_z at_last) in
    let small : SFits w32 (read c.day-first.result) = subst (SFits w32) (sym first) (day_fits (get_or s 0 (pos 0)) (c.requires.1.0 0 (omega arith))) in
    c.fill.ensures.after (λ y e. e) ∙ ap (replicate n) (to_z-of_z small ∙ first)
    ∙ ap (λ k. replicate k (day_of (get_or s 0 (pos 0)))) (sym c.requires.0)
    ∙ same_days s 15 c.told-instants c.requires.1.1 (sym first ∙ ap (to_z w64) c.if-first-day.true ∙ last)
