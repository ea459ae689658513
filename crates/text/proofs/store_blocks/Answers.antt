use Prim.Native.Nat.{ℕ, ◌+◌, ◌≤◌}
use mathlib.Core.Path.{◌≡◌, refl, sym, ap, ◌∙◌}
use mathlib.Core.List.{List}
use lib.ListN.{length, take}
use Rattle.text.specs.Words.{part_of}
use Rattle.text.specs.Filled.{filled}
use native.Mathlib.Nat.{zero-add}
use native.Mathlib.Omega.{arith}
use Rattle.text.proofs.Filled.{filled_front_part, last_part_whole}
use Rattle.text.proofs.store_blocks.Goals as goal
use Rattle.text.proofs.store_blocks.Goals.{else-loop-i-test, then-loop-i-test+else-last-i-gt32}

-- what is stored after one more block
one_more :
    (piece : List ℕ) (i : ℕ) (before : List ℕ) {between after : List ℕ} → i + 32 ≤ length piece → between ≡ filled 0 (take i piece) before →
    after ≡ filled i (part_of i 32 piece) between → after ≡ filled 0 (take (i + 32) piece) before
one_more piece i before {between} h e f =
    filled_front_part 0 piece i i 32 before (omega arith) (omega arith) refl h e (f ∙ ap (λ k. filled k (part_of i 32 piece) between) (sym (zero-add i)))

pub loop-i-preserved : goal.loop-i-preserved
loop-i-preserved c =
    let a = c.args in
    let l = c.loop-i in
    (omega arith, one_more a.piece.now l.i a.to.now (omega arith) l.invariant.1 c.store_block.ensures)

pub returns : goal.returns
returns c =
    let a = c.args in
    let l = c.loop-i in
    let piece = a.piece.now in
    elim c.loop-i-test.branch [
      | else-loop-i-test w ↦ last_part_whole piece l.i 32 a.to.now c.requires.same (omega arith) (omega arith) (omega arith) (w.to-is ∙ l.invariant.1) c.store_block-2.ensures
      | then-loop-i-test+else-last-i-gt32 w ↦ last_part_whole piece (l.i + 32) 32 a.to.now c.requires.same (omega arith) (omega arith) (omega arith)
          (w.to-is ∙ one_more piece l.i a.to.now (omega arith) l.invariant.1 w.store_block.ensures)
          c.store_block-2.ensures
    ]
