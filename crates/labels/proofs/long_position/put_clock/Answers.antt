use Rattle.std.proofs.Common.{◌+◌, [], ◌∷◌, refl, ap, ◌∙◌}
use Rattle.labels.specs.Clock.{colon}
use Rattle.text.specs.Filled.{filled}
use Rattle.labels.specs.Webvtt.{clock_of}
use Rattle.text.proofs.Filled.{filled_then}
use Rattle.labels.proofs.Positions.{clock_is}
use Rattle.labels.proofs.long_position.put_clock.Goals as goal

pub returns : goal.returns
returns c =
    let a = c.args in
    let first = c.store in
    filled_then a.at (colon ∷ []) (clock_of a.n) a.out.now first.ensures refl
    (c.put.ensures ∙ ap (λ text. filled (a.at + 1) text first.new.out) (clock_is a.n))
