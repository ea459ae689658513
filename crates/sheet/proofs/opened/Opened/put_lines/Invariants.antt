use Rattle.text.specs.Filled.{Stored}
use Rattle.sheet.specs.Report.{lines_of}
use Rattle.sheet.proofs.opened.Opened.put_lines.Given as goal

-- the lines of the records before `place` stand in front
abbrev pub invariant-loop-place : goal.invariant-loop-place
invariant-loop-place l = Stored 0 (lines_of l.self.bytes.now l.place) l.initial.out l.out l.at
