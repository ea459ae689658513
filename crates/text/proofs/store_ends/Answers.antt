use native.Mathlib.Omega.{arith}
use Rattle.text.proofs.Filled.{last_part_whole}
use Rattle.text.proofs.store_ends.Goals as goal

pub returns : goal.returns
returns c =
    let a = c.args in
    last_part_whole a.piece.now a.size a.size a.to.now c.requires.same (omega arith) (omega arith) (omega arith) c.store_block.ensures c.store_block-2.ensures
