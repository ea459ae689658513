use mathlib.Core.Path.{sym}
use native.Mathlib.Omega.{arith}
use borrow.Author.Tests.{le-ltb}
use Rattle.sheet.proofs.LineTexts.{lines_short}
use Rattle.sheet.proofs.opened.Opened.lack_room.Goals as goal

pub returns-then-room-ge-REPORT_MOST : goal.returns-then-room-ge-REPORT_MOST
returns-then-room-ge-REPORT_MOST c = let s = c.args.self.now in sym (le-ltb c.args.room _ (omega (arith, lines_short s.bytes.now s.is_read)))
