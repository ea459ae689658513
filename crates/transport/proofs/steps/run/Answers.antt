-- Each value is taken or passed over, as its step answers.
use Prim.Native.Nat.{◌+◌}
use mathlib.Core.Path.{sym, ap, ◌∙◌}
use native.Mathlib.Omega.{arith}
use lib.ListN.{get_or}
use mir.Syntax.{w64}
use mir.Val.{SFits}
use Rattle.std.proofs.Common.{rules, add_assoc, to_z-of_z, Some, pos}
use Rattle.std.proofs.lemmas.List.{take_rest, length-drop}
use Rattle.transport.specs.Answers.{so_far}
use Rattle.transport.proofs.Answered.{one_taken, one_passed_over, behind, again, at_end, value_refused, value_heard}
use Rattle.transport.proofs.steps.run.Goals as goal
use Rattle.transport.proofs.steps.run.Goals.{in-Ok+in-Ok-next, in-Ok+in-Err-next, in-Err}

pub loop-heard-preserved : goal.loop-heard-preserved
loop-heard-preserved c =
    let l = c.loop-heard in
    let values = c.args.values.now in
    let i = c.args.start + l.heard-index in
    let b = behind values c.args.start l.heard-index c.loop-heard-test.true in
    let clock = Some (pos l.reached.ticks) in
    let heard = get_or values i (pos 0) in
    let f : SFits w64 heard = search rules in
    elim c.match-heard.branch [
      | in-Ok+in-Ok-next w ↦
          let e = w.in-Ok-next.ensures ∙ value_heard clock heard (rw (b.1, to_z-of_z f) at w.in-Ok.ensures) in
          rw (w.reached-is, w.skipped-is, ← add_assoc c.args.start l.heard-index 1) (omega arith, again values i clock l.skipped b.0 (one_taken clock heard l.skipped e) ∙ l.invariant.1)
      | in-Ok+in-Err-next w ↦
          let e = w.in-Err-next.ensures ∙ value_heard clock heard (rw (b.1, to_z-of_z f) at w.in-Ok.ensures) in
          rw (w.reached-is, w.skipped-is, ← add_assoc c.args.start l.heard-index 1) (omega arith, again values i clock l.skipped b.0 (one_passed_over clock heard l.skipped e) ∙ l.invariant.1)
      | in-Err w ↦
          let e = value_refused clock heard (rw (b.1, to_z-of_z f) at w.in-Err.ensures) in
          rw (w.reached-is, w.skipped-is, ← add_assoc c.args.start l.heard-index 1) (omega arith, again values i clock l.skipped b.0 (one_passed_over clock heard l.skipped e) ∙ l.invariant.1)
    ]

pub returns : goal.returns
returns c =
    let l = c.loop-heard in
    let past = rw (take_rest c.args.values.now c.args.start) at c.loop-heard-test.false in
    let long = length-drop c.args.start c.args.values.now in
    ap (λ clock. so_far clock l.skipped) c.clock.ensures
    ∙ sym (at_end c.args.values.now (c.args.start + l.heard-index) (Some (pos l.reached.ticks)) l.skipped (omega arith)) ∙ l.invariant.1
