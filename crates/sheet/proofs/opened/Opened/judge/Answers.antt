use mathlib.Core.Path.{ap, ◌∙◌}
use Rattle.sheet.specs.Answers.{verdict}
use Rattle.sheet.proofs.Trailer.{check_here}
use Rattle.sheet.proofs.opened.Opened.judge.Goals as goal

pub returns : goal.returns
returns c = check_here c.args.self.now.bytes.now c.args.self.now.is_read c.args.place c.requires (c.judge.ensures ∙ ap verdict c.claim.ensures)
