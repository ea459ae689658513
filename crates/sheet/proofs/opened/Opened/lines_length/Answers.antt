use Prim.Native.Nat.{◌+◌}
use mathlib.Core.Path.{◌≡◌, ap}
use native.Mathlib.Numerals.{add-one}
use native.Mathlib.Omega.{arith}
use lib.ListN.{length}
use Rattle.sheet.specs.Report.{line, lines_of}
use Rattle.sheet.proofs.LineTexts.{no_lines, next_length, lines_grow, lines_short}
use Rattle.sheet.proofs.opened.Opened.lines_length.Goals as goal
use Rattle.sheet.proofs.opened.Opened.lines_length.Goals.{After-line_length-total}

pub loop-place-init : goal.loop-place-init
loop-place-init c = ap length (no_lines c.args.self.now.bytes.now)

-- one more line
next : (c : After-line_length-total) → c.loop-place.total + c.line_length-total.result ≡ length (lines_of c.args.self.now.bytes.now (c.loop-place.place + 1))
next c =
    let place = c.loop-place.place in
    rw add-one
    (omega (arith, c.loop-place.invariant, ap (λ o. length (line place o)) c.judge.ensures, next_length c.args.self.now.bytes.now place))

pub overflow_add-total : goal.overflow_add-total
overflow_add-total c =
    let s = c.args.self.now in
    let h = lines_grow s.bytes.now (c.loop-place.place + 1) s.contents.records (omega arith) in
    record { fits = omega (arith, next c, h, lines_short s.bytes.now s.is_read) }

pub loop-place-preserved : goal.loop-place-preserved
loop-place-preserved c = next c
