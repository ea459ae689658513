use Rattle.calendar.proofs.Lengths.{days_by_bits, bits_days}
use Rattle.calendar.proofs.Months.{length_le}
use Rattle.calendar.specs.Closed.{month_days}
use borrow.Author.Tests.{eq-eqb, ne_eqb}
use mathlib.Core.Bool.{Bool, true, false, cond}
use mathlib.Core.Path.{◌≡◌, refl, sym, ap, ◌∙◌, subst}
use native.Mathlib.Omega.{arith}
use mir.Val.{bool_byte}
use Prim.Native.Nat.{ℕ, ◌≤◌}
use Rattle.calendar.proofs.length_by_bits.days_of.Goals as goal
use Rattle.calendar.proofs.length_by_bits.days_of.Goals.{Start}

-- a flag as leap days
days_is : (b : Bool) → (bool_byte b ≡ cond b 1 0) × (cond b 1 0 ≤ 1)
days_is true = (refl, omega arith)
days_is false = (refl, omega arith)

-- what the form comes to
form_is : (c : Start) → let r = days_by_bits (bool_byte c.args.leap) c.args.month.number in (r ≡ month_days (cond c.args.leap 1 0) c.args.month.number) × (r ≤ 31)
form_is c =
    let m = c.args.month.number in
    let p = c.args.month.in_year in
    let l = cond c.args.leap 1 0 in
    let d = days_is c.args.leap in
    let e = ap (λ l. days_by_bits l m) d.0 ∙ bits_days l m p.0 p.1 in
    (e, subst (λ (n : ℕ). n ≤ 31) (sym e) (length_le l m d.1 p.0 p.1))

pub returns-then-m-eq2 : goal.returns-then-m-eq2
returns-then-m-eq2 c = rw (eq-eqb c.args.month.number 2 c.if-m-eq2.true) at (form_is c.before)

pub returns-else-m-eq2 : goal.returns-else-m-eq2
returns-else-m-eq2 c = rw (ne_eqb c.args.month.number 2 c.if-m-eq2.false) at (form_is c.before)
