use Prim.Native.Nat.{suc, ◌-◌}
use mathlib.Core.Path.{◌≡◌, ap, ap₂, ◌∙◌}
use native.Mathlib.Omega.{arith}
use lib.ListN.{length}
use Rattle.text.specs.Decimal.{digits}
use Rattle.text.specs.Filled.{filled}
use Rattle.text.proofs.Decimal.{digit_stored, less_tens, length_digits}
use Rattle.text.proofs.Filled.{filled_whole}
use Rattle.text.proofs.store_digits.Goals as goal

pub loop-i-preserved : goal.loop-i-preserved
loop-i-preserved c =
    let a = c.args in
    let l = c.loop-i in
    let before = a.to.now in
    let j = l.i - 1 in
    let count = length before - l.i in
    let next : length before - j ≡ suc count = omega arith in
    let place : l.i ≡ suc j = omega arith in
    let stored = l.invariant.1 ∙ ap (λ k. filled k (digits a.n count) before) place in
    rw next (less_tens a.n count l.invariant.0, digit_stored j a.n count before l.invariant.0 stored)

pub returns : goal.returns
returns c =
    let a = c.args in
    let l = c.loop-i in
    let before = a.to.now in
    let n = length before in
    let front : l.i ≡ 0 = omega arith in
    let all : n - l.i ≡ n = omega arith in
    l.invariant.1 ∙ ap₂ (λ k count. filled k (digits a.n count) before) front all ∙ filled_whole (digits a.n n) before (length_digits a.n n)
