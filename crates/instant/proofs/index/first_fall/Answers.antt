use Rattle.std.proofs.Common.{◌≡◌, rules}
use Rattle.std.specs.Option.{option_map}
use mathlib.Core.Path.{ap, sym, ◌∙◌}
use Prim.Native.Nat.{◌+◌}
use borrow.Author.Tests.{tests}
use Rattle.std.proofs.lemmas.Iterator.Search.{position_from_yields_List}
use Rattle.instant.specs.Answers.{first_fall}
use Rattle.instant.specs.Checked.{place_in}
use Rattle.instant.proofs.Neighbours.{windows_yield, fall_in, place_of_fall}
use Rattle.instant.proofs.index.first_fall.Goals as goal
use Rattle.instant.proofs.index.first_fall.Goals.{After-position}

found : (c : After-position) → option_map (λ n. n + 1) c.position.result ≡ place_in c.args.instants.now (first_fall c.args.instants.now)
found c =
    let s = c.args.instants.now in
    place_of_fall s c.position.result
    (position_from_yields_List fall_in _ _ c.position.result c.position.ensures.ran
    (windows_yield s c.windows.ensures.size c.windows.ensures.rest) (λ x b q k. search (rules, tests)))

pub returns-in_err-earlier : goal.returns-in_err-earlier
returns-in_err-earlier c =
    c.from_residual.ensures
    ∙ ap (option_map (λ n. n + 1)) (sym c.in_err-earlier.was)
    ∙ found (goal.at.returns-in_err-earlier c).After-position

pub returns : goal.returns
returns c = ap (option_map (λ n. n + 1)) (sym c.in_ok-earlier.was) ∙ found (goal.at.returns c).After-position
