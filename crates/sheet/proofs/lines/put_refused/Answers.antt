use Prim.Native.Nat.{◌+◌, ◌≤◌}
use mathlib.Core.Path.{ap}
use mathlib.Core.List.{◌++◌}
use native.Mathlib.Omega.{arith}
use lib.ListN.{length, length-append}
use Rattle.text.specs.Decimal.{decimal}
use Rattle.text.proofs.Filled.{put_stored, put_then, stored_as}
use Rattle.text.proofs.Writing.{stored_written}
use Rattle.sheet.specs.Report.{newline}
use Rattle.sheet.proofs.lines.put_refused.Goals as goal

pub returns-clause-buffer : goal.returns-clause-buffer
returns-clause-buffer c =
    let out = c.args.out.now in
    let digits = decimal c.number-number.result in
    let line = ap (λ n. decimal n ++ newline) c.number-number.ensures in
    let room : 0 + length (digits ++ newline) ≤ length out = omega (arith, c.number_length.ensures.0, length-append digits newline) in
    let number = put_stored 0 digits out (omega (arith, room, length-append digits newline)) (c.put_number-behind.ensures.place, c.put_number-behind.ensures.buffer) in
    let all = put_then 0 digits newline number room (c.put.ensures.place, c.put.ensures.buffer) in
    (stored_written (stored_as line all) (omega (arith, room, ap length line))).1
