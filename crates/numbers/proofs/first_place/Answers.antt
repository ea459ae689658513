use Rattle.std.proofs.Common.{rules}
use mathlib.Core.Bool.{beq}
use borrow.Author.Tests.{tests}
use lib.IntN.{ℤ}
use Rattle.std.proofs.lemmas.Iterator.{YieldsList-from_slice}
use Rattle.std.proofs.lemmas.Iterator.Search.{position_from_yields_List}
use Rattle.numbers.specs.Range.{outside}
use Rattle.numbers.proofs.Places.{position_is}
use Rattle.numbers.proofs.first_place.Goals as goal

pub returns-clause-found : goal.returns-clause-found
returns-clause-found c =
    let a = c.args in
    let looked_for = λ (z : ℤ). beq (outside a.first a.last z) a.wanted in
    let e = position_from_yields_List looked_for _ _ c.position.result c.position.ensures.ran (YieldsList-from_slice a.list.now (search rules))
    (λ x b q k. search (rules, tests)) in
    rw (← position_is a.first a.last a.wanted a.list.now) e
