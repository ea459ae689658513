-- The position that is reached lies in the range exactly if what lies HALF ahead of it lies between the two limits.
use Prim.Native.Nat.{◌-◌, ◌≤◌, ◌^◌}
use native.Mathlib.Omega.{arith}
use Rattle.transport.specs.Wraps.{half}
use Rattle.transport.proofs.Answered.{lands, lands_outside}
use Rattle.transport.proofs.steps.Reached.next.Goals as goal

pub returns-then-not-contains : goal.returns-then-not-contains
returns-then-not-contains c =
    let a = c.ahead-ahead.result in
    let from = c.args.self in
    let not_both : half ≤ a → a - half ≤ 2 ^ 53 → ⊥ = λ low high. let e = rw (c.new.ensures.start, c.new.ensures.end, c.new.ensures.exhausted) at c.contains.ensures.value in let g = c.if-not-contains.true in grind arith in
    lands_outside from.ticks c.args.value.number a from.in_range c.args.value.in_range c.ahead-ahead.ensures not_both

pub returns : goal.returns
returns c =
    let a = c.ahead-ahead.result in
    let from = c.args.self in
    let low : half ≤ a = grind arith in
    let high : a - half ≤ 2 ^ 53 = grind arith in
    lands from.ticks c.args.value.number a from.in_range c.args.value.in_range c.ahead-ahead.ensures low high
