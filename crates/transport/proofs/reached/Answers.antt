-- A value that the clock does not have is refused, and a position handed in that is outside refuses every value.
use Rattle.std.proofs.Common.{rules, to_z-of_z}
use Rattle.std.proofs.lemmas.Result.{err_from_is_err_and}
use mir.Syntax.{w64}
use mir.Val.{SFits}
use Rattle.transport.proofs.Answered.{value_refused, position_refused}
use Rattle.transport.proofs.reached.Goals as goal

pub returns-in-Err : goal.returns-in-Err
returns-in-Err c = let f = c.ranges.heard in value_refused c.args.clock c.args.heard (simp to_z-of_z at c.in-Err.ensures)

pub returns-in_err-at-in-Some : goal.returns-in_err-at-in-Some
returns-in_err-at-in-Some c =
    let p = err_from_is_err_and c.from_residual.result c.from_residual.ensures.1 in
    let f : SFits w64 c.in-Some.position = search rules in
    let g = c.ranges.heard in
    rw (p.1, p.2, c.in-Some.is) (position_refused c.in-Some.position c.args.heard (simp to_z-of_z at c.in_err-at-in-Some.ensures))
