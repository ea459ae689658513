use Prim.Native.Nat.{◌+◌, ◌≤◌}
use mathlib.Core.List.{◌++◌}
use native.Mathlib.Omega.{arith}
use lib.ListN.{length, length-append}
use Rattle.text.specs.Decimal.{decimal}
use Rattle.text.specs.Filled.{Stored}
use Rattle.text.proofs.Filled.{put_stored, put_then, stored_then}
use Rattle.constants.specs.Answers.{claim_outcome}
use Rattle.sheet.specs.Report.{space, newline, verdict_text}
use Rattle.sheet.proofs.LineTexts.{line_length}
use Rattle.sheet.proofs.lines.put_line.Goals as goal

pub returns : goal.returns
returns c =
    let a = c.args in
    let place = decimal a.place in
    let text = verdict_text (claim_outcome a.answer) in
    let room : a.at + length place + 1 + length text + 1 ≤ length a.out.now = omega (arith, c.requires, line_length a.place (claim_outcome a.answer)) in
    let front : Stored a.at (place ++ space) a.out.now c.put-behind_space.new.out c.put-behind_space.result =
    put_then a.at place space (put_stored a.at place a.out.now (omega arith) (c.put_number-behind_place.ensures.place, c.put_number-behind_place.ensures.buffer))
    (omega (arith, length-append place space)) (c.put-behind_space.ensures.place, c.put-behind_space.ensures.buffer) in
    put_then a.at (place ++ space ++ text) newline (stored_then front c.put_verdict-behind_verdict.ensures) c.requires (c.put.ensures.place, c.put.ensures.buffer)
