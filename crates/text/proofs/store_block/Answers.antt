use Prim.Native.Nat.{◌+◌, ◌-◌}
use mathlib.Core.Path.{◌≡◌, ap, ◌∙◌}
use native.Mathlib.Omega.{arith}
use lib.ListN.{length}
use Rattle.std.proofs.lemmas.List.{take_at}
use Rattle.text.specs.Words.{part_of}
use Rattle.text.proofs.Words.{part_length}
use Rattle.text.proofs.Filled.{filled_slice}
use Rattle.text.proofs.store_block.Goals as goal

pub returns : goal.returns
returns c =
    let a = c.args in
    let part = part_of a.«from» a.size a.piece.now in
    let size : a.«from» + a.size - a.«from» ≡ a.size = omega arith in
    let long = part_length a.«from» a.size a.piece.now (omega arith) in
    let read = c.store_part.ensures ∙ ap (λ n. part_of a.«from» n a.piece.now) size in
    filled_slice a.«from» part a.to.now (omega (arith, long)) (omega arith) (c.store_part-2.ensures ∙ take_at _ _ a.size (ap length read ∙ long) ∙ read)
