use mathlib.Core.Path.{◌∙◌}
use Rattle.text.proofs.Words.{four_word}
use Rattle.sheet.specs.Answers.{number_at}
use Rattle.sheet.proofs.bytes.number_at.Goals as goal

pub returns : goal.returns
unfolding number_at
returns c = c.four_bytes.ensures ∙ four_word c.args.sheet.now c.args.at c.requires
