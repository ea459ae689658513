use mathlib.Core.Path.{◌∙◌}
use Rattle.sheet.proofs.NumberBytes.{number_stored}
use Rattle.sheet.proofs.bytes.put_number.Goals as goal

pub returns : goal.returns
returns c = number_stored c.args.at c.args.n c.args.out.now _ c.requires (c.copy_from_slice.ensures.after ∙ c.to_le_bytes.ensures)
