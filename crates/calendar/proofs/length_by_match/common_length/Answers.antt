use Rattle.calendar.proofs.Lengths.{at_key, no_key}
use Rattle.calendar.proofs.Months.{each_month}
use Rattle.calendar.specs.Closed.{month_days}
use Rattle.calendar.specs.Checked.{length_answer}
use mir.Val.{of_z}
use mir.Syntax.{w64}
use lib.Dec.{lit<}
use lib.IntN.{pos}
use mathlib.Core.Logic.{⊎_elim, inl, inr}
use mathlib.Core.Path.{◌≡◌}
use Prim.Native.Nat.{ℕ, ◌<◌, ◌^◌}
use Rattle.calendar.proofs.length_by_match.common_length.Goals as goal
use Rattle.calendar.proofs.length_by_match.common_length.Goals.{Start}

-- the month is the key k
is : (c : Start) (k : ℕ) → k < 2 ^ 63 → of_z w64 c.args.month ≡ k → length_answer 0 (pos k) ≡ length_answer 0 c.args.month
is c = at_key c.args.month c.ranges.month

pub returns-in-1 : goal.returns-in-1
unfolding length_answer month_days
returns-in-1 c = let s = c.before in
    ⊎_elim (is s 1 (lit< tt)) (⊎_elim (is s 3 (lit< tt)) (⊎_elim (is s 5 (lit< tt)) (is s 7 (lit< tt)))) c.in-1.in-1-own.keys1

pub returns-in-4 : goal.returns-in-4
unfolding length_answer month_days
returns-in-4 c = let s = c.before in
    ⊎_elim (is s 4 (lit< tt)) (⊎_elim (is s 6 (lit< tt)) (⊎_elim (is s 9 (lit< tt)) (is s 11 (lit< tt)))) c.in-4.in-4-own.keys2

pub returns-in-8 : goal.returns-in-8
unfolding length_answer month_days
returns-in-8 c = let s = c.before in
    ⊎_elim (is s 8 (lit< tt)) (⊎_elim (is s 10 (lit< tt)) (is s 12 (lit< tt))) c.in-8.in-8-own.keys3

pub returns-in-2 : goal.returns-in-2
unfolding length_answer month_days
returns-in-2 c = is c.before 2 (lit< tt) c.in-2.in-2-own.keys4

pub returns-in_default : goal.returns-in_default
returns-in_default c = let s = c.before in
    let r = c.in_default.in_default-own.rest in
    no_key s.args.month s.ranges.month (each_month (λ k. of_z w64 s.args.month ≡ k → ⊥) ((((((((((((tt, λ e. r.0.0.0.1 (inl e)), λ e. r.1 e), λ e. r.0.0.0.1 (inr (inl e))), λ e. r.0.0.1 (inl e)), λ e. r.0.0.0.1 (inr (inr (inl e)))), λ e. r.0.0.1 (inr (inl e))), λ e. r.0.0.0.1 (inr (inr (inr e)))), λ e. r.0.1 (inl e)), λ e. r.0.0.1 (inr (inr (inl e)))), λ e. r.0.1 (inr (inl e))), λ e. r.0.0.1 (inr (inr (inr e)))), λ e. r.0.1 (inr (inr e))))
