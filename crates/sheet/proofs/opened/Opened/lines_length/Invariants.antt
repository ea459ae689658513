use mathlib.Core.Path.{◌≡◌}
use lib.ListN.{length}
use Rattle.sheet.specs.Report.{lines_of}
use Rattle.sheet.proofs.opened.Opened.lines_length.Given as goal

abbrev pub invariant-loop-place : goal.invariant-loop-place
invariant-loop-place l = l.total ≡ length (lines_of l.self.bytes.now l.place)
