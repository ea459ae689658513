-- The leap rule on years counted from base_year, and the number of leap years before a year.
use Prim.Native.Nat.{ℕ, ◌+◌, ◌-◌, ◌*◌, ◌/◌, ◌%◌, ◌≤◌}
use mathlib.Core.Path.{◌≡◌, refl, sym, ap, ◌∙◌}
use mathlib.Core.Bool.{Bool, true, false, cond, not, ◌&&◌}
use native.Mathlib.Decide.{ℕ_discrete}
use native.Mathlib.Omega.{arith}
use native.Mathlib.Nat.{mul-mod_right}
use lib.Dec.{eqb}
use lib.IntN.{pos, nat_abs, ◌+ℤ◌}
use borrow.Author.Tests.{eqb-true, eqb-false}
use mir.Val.{bool_byte}
use Rattle.numbers.specs.Floor.{floor_remainder}
use Rattle.numbers.proofs.Integers.{on_sub}
use Rattle.calendar.specs.Gregorian.{leap_year}
use Rattle.calendar.specs.Closed.{base_year, leapℕ, leap_day, leaps}

-- the four cases of the rule
pub leap_cases :
    (P : ℕ → Type 0) (y : ℕ) →
    ((y % 4 ≡ 0 → ⊥) → P 0) →
    (y % 4 ≡ 0 → (y % 100 ≡ 0 → ⊥) → P 1) →
    (y % 4 ≡ 0 → y % 100 ≡ 0 → (y % 400 ≡ 0 → ⊥) → P 0) →
    (y % 4 ≡ 0 → y % 100 ≡ 0 → y % 400 ≡ 0 → P 1) → P (leap_day y)
unfolding leap_day leapℕ
leap_cases P y by-no4 by-no100 by-no400 by_400 = go (eqb (y % 4) 0) (eqb (y % 100) 0) (eqb (y % 400) 0) refl refl refl
  where
    go : (a b c : Bool) → eqb (y % 4) 0 ≡ a → eqb (y % 100) 0 ≡ b → eqb (y % 400) 0 ≡ c → P (cond (a && not (b && not c)) 1 0)
    go false b c p q r = by-no4 (eqb-false (y % 4) 0 p)
    go true false c p q r = by-no100 (eqb-true (y % 4) 0 p) (eqb-false (y % 100) 0 q)
    go true true false p q r = by-no400 (eqb-true (y % 4) 0 p) (eqb-true (y % 100) 0 q) (eqb-false (y % 400) 0 r)
    go true true true p q r = by_400 (eqb-true (y % 4) 0 p) (eqb-true (y % 100) 0 q) (eqb-true (y % 400) 0 r)

pub leap_le : (y : ℕ) → leap_day y ≤ 1
leap_le y = leap_cases (λ l. l ≤ 1) y (λ a. omega arith) (λ a b. omega arith) (λ a b c. omega arith) (λ a b c. omega arith)

-- .. and at most 1 where a test lets them count
pub tested_leap_le : (t : Bool) (l : ℕ) → l ≤ 1 → bool_byte t * l ≤ 1
tested_leap_le true l h = omega arith
tested_leap_le false l h = omega arith

pub leap_is_one : (y : ℕ) → y % 4 ≡ 0 → (y % 100 ≡ 0 → y % 400 ≡ 0) → leap_day y ≡ 1
leap_is_one y h k =
    leap_cases (λ l. l ≡ 1) y (λ a. absurd (a h)) (λ a b. refl) (λ a b c. absurd (c (k b))) (λ a b c. refl)

pub leap_is_zero : (y : ℕ) → (y % 4 ≡ 0 → (y % 100 ≡ 0) × (y % 400 ≡ 0 → ⊥)) → leap_day y ≡ 0
leap_is_zero y h =
    leap_cases (λ l. l ≡ 0) y (λ a. refl) (λ a b. absurd (b (h a).0)) (λ a b c. refl) (λ a b c. absurd ((h a).1 c))

-- the year is leap where its leap days are 1
leap_flag : (y : ℕ) → eqb (leap_day y) 1 ≡ leapℕ y
unfolding leap_day
leap_flag y = go (leapℕ y)
  where
    go : (t : Bool) → eqb (cond t 1 0) 1 ≡ t
    go true = refl
    go false = refl

-- 25 and 4 divide a year only where 100 does, 25 and 16 only where 400 does
by_100 : (y : ℕ) → y % 25 ≡ 0 → y % 4 ≡ 0 → y % 100 ≡ 0
by_100 y h k = let p : y ≡ 100 * (y / 4 - 6 * (y / 25)) = omega arith in ap (λ y. y % 100) p ∙ mul-mod_right 100 _

by_400 : (y : ℕ) → y % 25 ≡ 0 → y % 16 ≡ 0 → y % 400 ≡ 0
by_400 y h k = let p : y ≡ 400 * (11 * (y / 25) - 7 * (y / 16)) = omega arith in ap (λ y. y % 400) p ∙ mul-mod_right 400 _

-- 4 divides the year, or 16 where 25 divides it
module _ (y r : ℕ) (by-16 : y % 25 ≡ 0 → r ≡ y % 16) (by_4 : (y % 25 ≡ 0 → ⊥) → r ≡ y % 4) where
  rest_zero : r ≡ 0 → leap_day y ≡ 1
  rest_zero h = go (ℕ_discrete (y % 25) 0)
    where
      go : Dec (y % 25 ≡ 0) → leap_day y ≡ 1
      go (yes e) = let p = by-16 e in leap_is_one y (omega arith) (λ k. by_400 y e (omega arith))
      go (no e) = let p = by_4 e in leap_is_one y (omega arith) (λ k. omega arith)

  rest_left : (r ≡ 0 → ⊥) → leap_day y ≡ 0
  rest_left h = go (ℕ_discrete (y % 25) 0)
    where
      go : Dec (y % 25 ≡ 0) → leap_day y ≡ 0
      go (yes e) = let p = by-16 e in leap_is_zero y (λ k. (by_100 y e k, λ i. omega arith))
      go (no e) = let p = by_4 e in leap_is_zero y (λ k. omega arith)

  pub rest_flag : eqb r 0 ≡ leapℕ y
  rest_flag = go (eqb r 0) refl
    where
      go : (t : Bool) → eqb r 0 ≡ t → t ≡ leapℕ y
      go true e = sym (ap (λ l. eqb l 1) (rest_zero (eqb-true r 0 e))) ∙ leap_flag y
      go false e = sym (ap (λ l. eqb l 1) (rest_left (eqb-false r 0 e))) ∙ leap_flag y

-- the public rule sees the year modulo 400 only
public_4 : (y : ℕ) → floor_remainder (base_year +ℤ pos y) 4 ≡ y % 4
public_4 y = on_sub (λ z. floor_remainder z 4 ≡ y % 4) y (nat_abs base_year) (λ l. omega arith) (λ l. omega arith)

public_100 : (y : ℕ) → floor_remainder (base_year +ℤ pos y) 100 ≡ y % 100
public_100 y = on_sub (λ z. floor_remainder z 100 ≡ y % 100) y (nat_abs base_year) (λ l. omega arith) (λ l. omega arith)

public_400 : (y : ℕ) → floor_remainder (base_year +ℤ pos y) 400 ≡ y % 400
public_400 y = on_sub (λ z. floor_remainder z 400 ≡ y % 400) y (nat_abs base_year) (λ l. omega arith) (λ l. omega arith)

pub leap_public : (y : ℕ) → leap_year (base_year +ℤ pos y) ≡ leapℕ y
unfolding leap_year leapℕ
leap_public y = simp (public_4 y, public_100 y, public_400 y)

-- One division at a time: how many multiples of k there are up to y.
hit_4 : (y : ℕ) → y % 4 ≡ 0 → (y + 1 + 3) / 4 ≡ (y + 3) / 4 + 1
hit_4 y h = omega arith

miss_4 : (y : ℕ) → (y % 4 ≡ 0 → ⊥) → (y + 1 + 3) / 4 ≡ (y + 3) / 4 + 0
miss_4 y h = omega arith

hit_100 : (y : ℕ) → y % 100 ≡ 0 → (y + 1 + 99) / 100 ≡ (y + 99) / 100 + 1
hit_100 y h = omega arith

miss_100 : (y : ℕ) → (y % 100 ≡ 0 → ⊥) → (y + 1 + 99) / 100 ≡ (y + 99) / 100 + 0
miss_100 y h = omega arith

hit_400 : (y : ℕ) → y % 400 ≡ 0 → (y + 1 + 399) / 400 ≡ (y + 399) / 400 + 1
hit_400 y h = omega arith

miss_400 : (y : ℕ) → (y % 400 ≡ 0 → ⊥) → (y + 1 + 399) / 400 ≡ (y + 399) / 400 + 0
miss_400 y h = omega arith

no_100 : (y : ℕ) → (y % 4 ≡ 0 → ⊥) → y % 100 ≡ 0 → ⊥
no_100 y h k = omega arith

no_400 : (y : ℕ) → (y % 100 ≡ 0 → ⊥) → y % 400 ≡ 0 → ⊥
no_400 y h k = omega arith

fewer : (y : ℕ) → (y + 99) / 100 ≤ (y + 3) / 4
fewer y = omega arith

-- the sum, over plain numbers
more : (a b c a' b' c' i j k : ℕ) → a' ≡ a + i → b' ≡ b + j → c' ≡ c + k → b ≤ a → j ≤ i + k → a' + c' - b' ≡ (a + c - b) + (i + k - j)
more a b c a' b' c' i j k p q r h l = omega arith

pub leaps_step : (y : ℕ) → leaps (y + 1) ≡ leaps y + leap_day y
unfolding leaps
leaps_step y =
    leap_cases (λ l. leaps (y + 1) ≡ leaps y + l) y
    (λ a. more _ _ _ _ _ _ 0 0 0 (miss_4 y a) (miss_100 y (no_100 y a)) (miss_400 y (no_400 y (no_100 y a))) (fewer y) (omega arith))
    (λ a b. more _ _ _ _ _ _ 1 0 0 (hit_4 y a) (miss_100 y b) (miss_400 y (no_400 y b)) (fewer y) (omega arith))
    (λ a b c. more _ _ _ _ _ _ 1 1 0 (hit_4 y a) (hit_100 y b) (miss_400 y c) (fewer y) (omega arith))
    (λ a b c. more _ _ _ _ _ _ 1 1 1 (hit_4 y a) (hit_100 y b) (hit_400 y c) (fewer y) (omega arith))

-- the leap years up to y
up_4 : (y : ℕ) → (y + 1 + 3) / 4 ≡ y / 4 + 1
up_4 y = omega arith

up_100 : (y : ℕ) → (y + 1 + 99) / 100 ≡ y / 100 + 1
up_100 y = omega arith

up_400 : (y : ℕ) → (y + 1 + 399) / 400 ≡ y / 100 / 4 + 1
up_400 y = omega arith

-- 100 divides no more years than 4
pub few : (y : ℕ) → y / 100 ≤ y / 4
few y = omega arith

sum_up : (a b c a' b' c' : ℕ) → a' ≡ a + 1 → b' ≡ b + 1 → c' ≡ c + 1 → b ≤ a → a' + c' - b' + b ≡ a + c + 1
sum_up a b c a' b' c' p q r h = omega arith

pub leaps_next : (y : ℕ) → leaps (y + 1) + y / 100 ≡ y / 4 + y / 100 / 4 + 1
unfolding leaps
leaps_next y = sum_up _ _ _ _ _ _ (up_4 y) (up_100 y) (up_400 y) (few y)
