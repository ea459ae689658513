use Rattle.text.proofs.Words.{eight_word}
use Rattle.labels.proofs.digits.eight_bytes.Goals as goal

pub returns : goal.returns
returns c =
    let a = c.args in
    eight_word a.text.now a.at c.requires c.four_bytes.ensures.0 c.four_bytes-2.ensures.0
