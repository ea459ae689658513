use Rattle.std.proofs.Common.{◌∙◌}
use Rattle.labels.proofs.StampParts.{nine_loaded}
use Rattle.labels.proofs.timestamp.short.Goals as goal

pub returns : goal.returns
returns c = c.of_words.ensures ∙ nine_loaded c.args.text.now c.type_inv.text c.requires c.four_bytes.ensures.0 c.four_bytes-2.ensures.0
