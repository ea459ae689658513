use Rattle.std.proofs.Common.{◌∙◌}
use Rattle.labels.proofs.StampParts.{twelve_loaded}
use Rattle.labels.proofs.timestamp.full.Goals as goal

pub returns : goal.returns
returns c = c.of_words.ensures ∙ twelve_loaded c.args.text.now c.type_inv.text c.requires c.eight_bytes.ensures c.four_bytes.ensures.0
