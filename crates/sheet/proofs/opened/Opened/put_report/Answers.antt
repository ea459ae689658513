use mathlib.Core.Path.{sym, ◌∙◌}
use borrow.Author.Tests.{ltb-false}
use Rattle.text.proofs.Writing.{stored_written}
use Rattle.sheet.proofs.opened.Opened.put_report.Goals as goal

pub returns-clause-buffer : goal.returns-clause-buffer
returns-clause-buffer c = (stored_written c.put_lines.ensures (ltb-false _ _ (sym c.lack_room.ensures ∙ c.if-lack_room.false))).1
