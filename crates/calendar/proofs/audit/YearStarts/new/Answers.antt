use Prim.Native.Nat.{◌+◌}
use mathlib.Core.Path.{◌≡◌, refl}
use native.Mathlib.Omega.{arith}
use lib.ListN.{get_or, replicate}
use borrow.Author.Rules.{rules}
use Rattle.calendar.specs.Closed.{start}
use Rattle.calendar.proofs.Order.{start_step}
use Rattle.calendar.proofs.YearTable.{filled_first, filled_more, start_small}
use Rattle.calendar.proofs.audit.YearStarts.new.Goals as goal
use Rattle.calendar.proofs.audit.YearStarts.new.Goals.{In-loop-y}

pub loop-y-init : goal.loop-y-init
loop-y-init c = (refl, filled_first (replicate 401 0) refl)

-- the last entry that was filled
last_entry : (c : In-loop-y) → get_or c.loop-y.days c.loop-y.y 0 ≡ start c.loop-y.y
last_entry c = c.loop-y.invariant.1 c.loop-y.y (omega arith)

pub overflow_add-days : goal.overflow_add-days
overflow_add-days c = record { fits = omega (arith, last_entry c, start_small c.loop-y.y (omega arith)) }

pub overflow_add-days-in-loop-y : goal.overflow_add-days-in-loop-y
overflow_add-days-in-loop-y c = record { fits = omega (arith, last_entry (goal.at.overflow_add-days-in-loop-y c).In-loop-y, start_small c.loop-y.y (omega arith)) }

pub loop-y-preserved : goal.loop-y-preserved
loop-y-preserved c =
    let l = c.loop-y in
    let e = last_entry (goal.at.loop-y-preserved c).In-loop-y in
    (search rules, filled_more l.days (l.y + 1) _ (omega arith) (omega (arith, start_step l.y)) l.invariant.1)
