use Prim.Native.Nat.{◌+◌}
use mathlib.Core.Path.{ap}
use native.Mathlib.Omega.{arith}
use lib.ListN.{length, length-append}
use Rattle.constants.specs.Answers.{claim_outcome}
use Rattle.sheet.specs.Report.{line, lines_of}
use Rattle.text.proofs.Filled.{nothing_stored, stored_then, stored_as}
use Rattle.sheet.proofs.LineTexts.{no_lines, lines_next, lines_grow}
use Rattle.sheet.proofs.opened.Opened.put_lines.Goals as goal

pub loop-place-init : goal.loop-place-init
loop-place-init c = stored_as (no_lines c.args.self.now.bytes.now) (nothing_stored 0 c.args.out.now)

pub put_line-at-requires : goal.put_line-at-requires
put_line-at-requires c =
    let s = c.args.self.now in
    let l = c.loop-place in
    omega (
      arith,
      length-append (lines_of s.bytes.now l.place) (line l.place (claim_outcome c.judge.result)),
      ap length (lines_next s.bytes.now l.place c.judge.ensures),
      lines_grow s.bytes.now (l.place + 1) s.contents.records (omega arith),
    )

pub loop-place-preserved : goal.loop-place-preserved
loop-place-preserved c =
    stored_as (lines_next c.args.self.now.bytes.now _ c.judge.ensures) (stored_then c.loop-place.invariant c.put_line-at.ensures)
