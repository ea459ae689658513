-- Theorems of the weekday: its numbers, day 0, the next day, and how it moves with a shift.
use Prim.Native.Nat.{ℕ, ◌+◌, ◌%◌}
use mathlib.Core.Path.{◌≡◌, refl, sym, ap, ◌∙◌}
use mathlib.Core.Bool.{Bool, true, false, cond}
use native.Mathlib.Omega.{arith}
use lib.Dec.{eqb, lit<}
use lib.IntN.{ℤ, pos, nat_abs, ◌+ℤ◌, +ℤ_assoc}
use borrow.Author.Tests.{eqb-true, eqb-false}
use Rattle.numbers.specs.Floor.{floor_remainder}
use Rattle.numbers.specs.Range.{outside, eq_z}
use Rattle.numbers.proofs.Between.{inside_pos}
use Rattle.numbers.proofs.Quotients.{remainder_add}
use Rattle.calendar.specs.Count.{weekday, document_number}
use Rattle.calendar.proofs.Weekdays.{remainder_swap, weekday_between, weekday_after}

-- the weekday
pub day_zero_is_thursday : weekday (pos 0) ≡ pos 4
unfolding weekday
day_zero_is_thursday = refl

pub weekday_is_in_range : (z : ℤ) → outside (pos 1) (pos 7) (weekday z) ≡ false
unfolding weekday
weekday_is_in_range z = let b = weekday_between z in inside_pos 1 7 (nat_abs (weekday z)) b.0 b.1

-- an answer that is one thing where two numbers are equal and another where they are not
by_equality : {A : Type 0} → (a b : ℕ) (x y r : A) → (a ≡ b → r ≡ x) → ((a ≡ b → ⊥) → r ≡ y) → r ≡ cond (eqb a b) x y
by_equality a b x y r same other = go (eqb a b) refl
  where
    go : (t : Bool) → eqb a b ≡ t → r ≡ cond t x y
    go true e = same (eqb-true a b e)
    go false e = other (eqb-false a b e)

-- the next day has the next number, and 1 after 7
pub weekday_moves_by_one : (z : ℤ) → weekday (z +ℤ pos 1) ≡ cond (eq_z (weekday z) (pos 7)) (pos 1) (weekday z +ℤ pos 1)
unfolding weekday
weekday_moves_by_one z =
    let b = weekday_between z in
    weekday_after z 1 ∙ by_equality (nat_abs (weekday z)) 7 _ _ _ (λ e. ap pos (omega (arith, e))) (λ e. ap pos (omega (arith, b.1, e)))

-- modulo 7 the two numbers are the same
pub weekday_modulo_seven : (z : ℤ) → floor_remainder (weekday z) 7 ≡ document_number z
unfolding weekday
weekday_modulo_seven z = sym (remainder_add 7 (lit< tt) (z +ℤ pos 3) (pos 1)) ∙ ap (λ z. floor_remainder z 7) (+ℤ_assoc z (pos 3) (pos 1))

-- so they differ on Sundays only
pub only_sunday_changes : (z : ℤ) → weekday z ≡ pos (cond (eqb (document_number z) 0) 7 (document_number z))
unfolding weekday
only_sunday_changes z =
    let b = weekday_between z in
    let m = weekday_modulo_seven z in
    ap pos (by_equality (document_number z) 0 _ _ _ (λ e. omega (arith, b.0, b.1, m, e)) (λ e. omega (arith, b.0, b.1, m, e)))

-- a weekday moves by the shift modulo 7
pub weekday_moves_by : (z p : ℤ) → floor_remainder (weekday (z +ℤ p)) 7 ≡ floor_remainder (weekday z +ℤ p) 7
weekday_moves_by z p =
    weekday_modulo_seven (z +ℤ p) ∙ remainder_swap z p (pos 4) ∙ ap (λ n. (n + floor_remainder p 7) % 7) (sym (weekday_modulo_seven z))
    ∙ sym (remainder_add 7 (lit< tt) (weekday z) p)
