-- The remainder toward zero, mended, is the floored one.
use Rattle.numbers.proofs.Mended.{divides, multiplies, remains, remains_fits}
use Rattle.numbers.proofs.Machine.{read, cast_pos}
use Rattle.instant.specs.Units.{per_day}
use Rattle.instant.specs.Instant.{time_of}
use Rattle.instant.proofs.Ranges.{time_below}
use Prim.Native.Nat.{◌<◌}
use native.Mathlib.Omega.{arith}
use mir.Facts.{to_z-of_z}
use mir.Val.{SFits}
use mir.Syntax.{w64}
use lib.Dec.{lit<}
use lib.IntN.{pos, nat_abs, ◌+ℤ◌, ◌*ℤ◌}
use lib.Signed.{rem_z}
use mathlib.Core.Path.{◌≡◌, sym, ap, ◌∙◌, subst}
use borrow.Author.Rules.{rules}
use Rattle.instant.proofs.floored.time.Goals as goal
use Rattle.instant.proofs.floored.time.Goals.{After-borrowed}

pub nonzero_rem-rest : goal.nonzero_rem-rest
nonzero_rem-rest c = (lit< tt, divides c.args.instant per_day c.ranges.instant (lit< tt))

lent_fits : (c : After-borrowed) → SFits w64 c.borrowed.result
lent_fits c = search rules

pub overflow_mul-result : goal.overflow_mul-result
overflow_mul-result c =
    let k = (goal.at.overflow_mul-result c).After-borrowed in
    multiplies c.args.instant per_day c.ranges.instant (lit< tt) (lent_fits k) c.borrowed.ensures (lit< tt)

-- the remainder and what is lent to it
module _ (c : After-borrowed) where
  sum_fits : SFits w64 (read (rem_z (read c.args.instant) (pos per_day)) +ℤ read (pos per_day *ℤ read c.borrowed.result))
  sum_fits =
      subst (SFits w64) (sym (remains c.args.instant per_day c.ranges.instant (lit< tt) (lent_fits c) c.borrowed.ensures (lit< tt)))
      (remains_fits c.args.instant per_day c.ranges.instant (lit< tt) (lent_fits c) c.borrowed.ensures (lit< tt))

  sum_is :
      read (read (rem_z (read c.args.instant) (pos per_day)) +ℤ read (pos per_day *ℤ read c.borrowed.result)) ≡ pos (time_of c.args.instant)
  unfolding time_of
  sum_is = to_z-of_z sum_fits ∙ remains c.args.instant per_day c.ranges.instant (lit< tt) (lent_fits c) c.borrowed.ensures (lit< tt)

pub overflow_add-result : goal.overflow_add-result
overflow_add-result c = sum_fits (goal.at.overflow_add-result c).After-borrowed

pub overflow_cast-result : goal.overflow_cast-result
overflow_cast-result c =
    let l = time_below c.args.instant in
    cast_pos w64 (time_of c.args.instant) (omega arith) (sum_is (goal.at.overflow_cast-result c).After-borrowed)

pub returns : goal.returns
returns c =
    let e = ap nat_abs (sum_is (goal.at.returns c).After-borrowed) in
    (e, subst (λ n. n < per_day) (sym e) (time_below c.args.instant))
