-- By the record of the multiplier, which the checker accepts.
use Prim.Native.Nat.{◌-◌, ◌*◌, ◌/◌, ◌%◌, ◌^◌}
use mathlib.Core.Path.{ap, ◌∙◌}
use native.Mathlib.Omega.{arith}
use Rattle.calendar.proofs.Quotients.{day_product}
use Rattle.calendar.proofs.fast.day_of_year.Goals as goal

pub returns : goal.returns
returns c =
    let d = c.args.d in
    let h = c.requires in
    ap (λ d. d * 23517959 % 2 ^ 33 * 1461 / 2 ^ 35) (omega arith) ∙ day_product (d - 1) (omega arith) ∙ ap (λ x. x % 1461 / 4) (omega arith)
