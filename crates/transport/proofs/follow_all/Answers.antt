-- From the first value that is taken on, or from the position handed in.
use mathlib.Core.Path.{◌≡◌, sym, ap, ◌∙◌}
use native.Mathlib.Omega.{arith}
use lib.ListN.{length, get_or}
use mir.Syntax.{w64}
use mir.Val.{SFits}
use Rattle.std.proofs.Common.{rules, to_z-of_z, Some, None, pos}
use Rattle.transport.specs.Wraps.{last_position}
use Rattle.transport.specs.Answers.{so_far}
use Rattle.transport.specs.Batches.{going_on}
use Rattle.transport.proofs.Answered.{one_taken, one_passed_over, again, at_end, from_start, value_refused, value_heard, heard_again, number_refused, number_taken, none_followed}
use Rattle.transport.proofs.follow_all.Goals as goal

pub returns-in-Ok : goal.returns-in-Ok
returns-in-Ok c =
    let values = c.args.values.now in
    let i = c.loop-place.place in
    let heard = get_or values i (pos 0) in
    let f : SFits w64 heard = search rules in
    let e = rw (to_z-of_z f) at c.in-Ok.ensures in
    let t = c.first.result.ticks in
    let own = heard_again heard t c.in-Ok.first.number c.in-Ok.first.in_range e c.first.ensures in
    rw c.in-None.is
    (c.run.ensures ∙ sym (again values i (Some (pos t)) i c.loop-place-test.true (one_taken (Some (pos t)) heard i own)) ∙ again values i None i c.loop-place-test.true (one_taken None heard i (c.first.ensures ∙ value_heard None heard e)) ∙ c.loop-place.invariant ∙ from_start None values)

pub loop-place-preserved : goal.loop-place-preserved
loop-place-preserved c =
    let values = c.args.values.now in
    let i = c.loop-place.place in
    let heard = get_or values i (pos 0) in
    let f : SFits w64 heard = search rules in
    let e = rw (to_z-of_z f) at c.in-Err.ensures in
    again values i None i c.loop-place-test.true (one_passed_over None heard i (value_refused None heard e)) ∙ c.loop-place.invariant

pub returns-after-loop-place : goal.returns-after-loop-place
returns-after-loop-place c =
    let values = c.args.values.now in
    let l = c.loop-place in
    let whole : length values ≡ l.place = omega arith in
    rw c.in-None.is (ap (so_far None) whole ∙ sym (at_end values l.place None l.place (omega arith)) ∙ l.invariant ∙ from_start None values)

pub returns-in-Ok-at : goal.returns-in-Ok-at
returns-in-Ok-at c =
    let values = c.args.values.now in
    let f : SFits w64 c.in-Some.position = search rules in
    let same = (number_taken last_position c.in-Some.position (rw (to_z-of_z f) at c.in-Ok-at.ensures)).1 in
    rw c.in-Some.is (c.run-in-Ok-at.ensures ∙ ap (λ p. going_on (Some p) 0 0 values) same ∙ from_start (Some c.in-Some.position) values)

pub returns-in-Err-at : goal.returns-in-Err-at
returns-in-Err-at c =
    let f : SFits w64 c.in-Some.position = search rules in
    let far = (number_refused last_position c.in-Some.position (rw (to_z-of_z f) at c.in-Err-at.ensures)).0 in
    rw c.in-Some.is (sym (none_followed c.in-Some.position far c.args.values.now))
