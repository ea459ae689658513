-- Whole numbers as a first number and a natural number more, and their order.
use Prim.Native.Nat.{ℕ, suc, ◌+◌, ◌-◌, ◌≤◌, ◌<◌}
use mathlib.Core.Path.{◌≡◌, refl, sym, ap, ap₂, ◌∙◌}
use mathlib.Core.Bool.{Bool, true, false, cond, not, ◌||◌}
use native.Mathlib.Numerals.{add-one}
use native.Mathlib.Omega.{arith}
use native.Mathlib.Decide.{dec_lt}
use lib.Dec.{ltb}
use lib.IntN.{ℤ, pos, negsuc, nat_abs, ◌+ℤ◌, ◌-ℤ◌, sub_ℕ, +ℤ_assoc, +ℤ_comm, +ℤ-neg_ℤ_cancel, -ℤ-+ℤ_cancel, +ℤ_idr}
use lib.Signed.{lt_z}
use borrow.Author.Tests.{ltb-true, ltb-false, lt-ltb, le-ltb, eq-eqb, eqb-true}
use Rattle.numbers.specs.Range.{outside, since, eq_z}
use Rattle.numbers.proofs.Bools.{no_both, or_no}

-- a difference of natural numbers, by its sign
pub on_sub : (P : ℤ → Type 0) (a b : ℕ) → (a < b → P (negsuc (b - suc a))) → (b ≤ a → P (pos (a - b))) → P (sub_ℕ a b)
on_sub P a b f g = go (ltb a b) refl
  where
    go : (t : Bool) → ltb a b ≡ t → P (cond t (negsuc (b - suc a)) (pos (a - b)))
    go true e = f (ltb-true a b e)
    go false e = g (ltb-false a b e)

pub sub_neg : (a b : ℕ) → a < b → sub_ℕ a b ≡ negsuc (b - suc a)
sub_neg a b h = rw (lt-ltb a b h)

pub sub_pos : (a b : ℕ) → b ≤ a → sub_ℕ a b ≡ pos (a - b)
sub_pos a b h = rw (le-ltb a b h)

-- a number that is not below `first` is `first` and a natural number
pub above : (first z : ℤ) → lt_z z first ≡ false → (n : ℕ) × (z ≡ first +ℤ pos n)
above (pos a) (pos b) h = let l = ltb-false b a h in (b - a, ap pos (omega arith))
above (pos a) (negsuc b) h = no_both true refl h
above (negsuc a) (pos b) h = (b + suc a, sym (sub_pos (b + suc a) (suc a) (omega arith) ∙ ap pos (omega arith)))
above (negsuc a) (negsuc b) h =
    let l = ltb-false a b h in
    above_neg (a - b) (omega arith)
  where
    above_neg : (n : ℕ) → b + n ≡ a → (n : ℕ) × (negsuc b ≡ negsuc a +ℤ pos n)
    above_neg n e = (n, sym (sub_neg n (suc a) (omega arith) ∙ ap negsuc (omega arith)))

pub difference : (first : ℤ) (n : ℕ) → (first +ℤ pos n) -ℤ first ≡ pos n
difference first n = ap (λ z. z -ℤ first) (+ℤ_comm first (pos n)) ∙ +ℤ-neg_ℤ_cancel (pos n) first

pub since_add : (first : ℤ) (n : ℕ) → since first (first +ℤ pos n) ≡ n
since_add first n = ap nat_abs (difference first n)

pub since_is : (first z : ℤ) → lt_z z first ≡ false → z -ℤ first ≡ pos (since first z)
since_is first z h =
    let a = above first z h in
    let d : z -ℤ first ≡ pos a.0 = ap (λ z. z -ℤ first) a.1 ∙ difference first a.0 in
    d ∙ sym (ap (λ z. pos (nat_abs z)) d)

pub add_since : (first z : ℤ) → lt_z z first ≡ false → first +ℤ pos (since first z) ≡ z
add_since first z h =
    let a = above first z h in
    ap (λ n. first +ℤ pos n) (ap (since first) a.1 ∙ since_add first a.0) ∙ sym a.1

-- order
ltb_add : (c a b : ℕ) → ltb (c + a) (c + b) ≡ ltb a b
ltb_add c a b = go (dec_lt a b)
  where
    go : Dec (a < b) → ltb (c + a) (c + b) ≡ ltb a b
    go (yes h) = lt-ltb (c + a) (c + b) (omega arith) ∙ sym (lt-ltb a b h)
    go (no h) = le-ltb (c + a) (c + b) (omega arith) ∙ sym (le-ltb a b (omega arith))

pub lt_add : (first : ℤ) (a b : ℕ) → lt_z (first +ℤ pos a) (first +ℤ pos b) ≡ ltb a b
lt_add (pos c) a b = ltb_add c a b
lt_add (negsuc c) a b =
    on_sub (λ z. lt_z z (sub_ℕ b (suc c)) ≡ ltb a b) a (suc c)
    (λ l. on_sub (λ z. lt_z (negsuc (suc c - suc a)) z ≡ ltb a b) b (suc c) (λ k. both l k (dec_lt a b)) (λ k. sym (lt-ltb a b (omega arith))))
    (λ l. on_sub (λ z. lt_z (pos (a - suc c)) z ≡ ltb a b) b (suc c) (λ k. sym (le-ltb a b (omega arith))) (λ k. both' l k (dec_lt a b)))
  where
    both : a < suc c → b < suc c → Dec (a < b) → ltb (suc c - suc b) (suc c - suc a) ≡ ltb a b
    both l k (yes h) = lt-ltb (suc c - suc b) (suc c - suc a) (omega arith) ∙ sym (lt-ltb a b h)
    both l k (no h) = le-ltb (suc c - suc b) (suc c - suc a) (omega arith) ∙ sym (le-ltb a b (omega arith))

    both' : suc c ≤ a → suc c ≤ b → Dec (a < b) → ltb (a - suc c) (b - suc c) ≡ ltb a b
    both' l k (yes h) = lt-ltb (a - suc c) (b - suc c) (omega arith) ∙ sym (lt-ltb a b h)
    both' l k (no h) = le-ltb (a - suc c) (b - suc c) (omega arith) ∙ sym (le-ltb a b (omega arith))

pub not_below : (first : ℤ) (n : ℕ) → lt_z (first +ℤ pos n) first ≡ false
not_below (pos c) n = le-ltb (c + n) c (omega arith)
not_below (negsuc c) n = on_sub (λ z. lt_z z (negsuc c) ≡ false) n (suc c) (λ l. le-ltb c (suc c - suc n) (omega arith)) (λ l. refl)

pub not_below_itself : (z : ℤ) → lt_z z z ≡ false
not_below_itself z = ap (λ (y : ℤ). lt_z y z) (sym (+ℤ_idr z)) ∙ not_below z 0

-- not below a, and a not below b
pub not_below_trans : (z a b : ℤ) → lt_z z a ≡ false → lt_z a b ≡ false → lt_z z b ≡ false
not_below_trans z a b h k =
    let n = above a z h in
    let m = above b a k in
    let e : z ≡ b +ℤ pos (m.0 + n.0) = n.1 ∙ ap (λ a. a +ℤ pos n.0) m.1 ∙ +ℤ_assoc b (pos m.0) (pos n.0) in
    ap (λ z. lt_z z b) e ∙ not_below b (m.0 + n.0)

-- a sum keeps the order
pub below : (a b : ℤ) → lt_z a b ≡ true → (n : ℕ) × (b ≡ a +ℤ pos (suc n))
below (pos a) (pos b) h = let l = ltb-true a b h in (b - suc a, ap pos (omega arith))
below (pos a) (negsuc b) h = no_both false h refl
below (negsuc a) (pos b) h = (a + b, sym (sub_pos (suc (a + b)) (suc a) (omega arith) ∙ ap pos (omega arith)))
below (negsuc a) (negsuc b) h =
    let l = ltb-true b a h in
    let e : suc a - suc (suc (a - suc b)) ≡ b = omega arith in
    (a - suc b, sym (sub_neg (suc (a - suc b)) (suc a) (omega arith) ∙ ap negsuc e))

pub is_below : (a : ℤ) (n : ℕ) → lt_z a (a +ℤ pos (suc n)) ≡ true
is_below (pos a) n = lt-ltb a (a + suc n) (omega arith)
is_below (negsuc a) n =
    on_sub (λ z. lt_z (negsuc a) z ≡ true) (suc n) (suc a) (λ l. lt-ltb (suc a - suc (suc n)) a (omega arith)) (λ l. refl)

move : (z a : ℤ) (n : ℕ) → z +ℤ (a +ℤ pos n) ≡ (z +ℤ a) +ℤ pos n
move z a n = sym (+ℤ_assoc z a (pos n))

pub lt_shift : (z a b : ℤ) → lt_z (z +ℤ a) (z +ℤ b) ≡ lt_z a b
lt_shift z a b = go (lt_z a b) refl
  where
    go : (t : Bool) → lt_z a b ≡ t → lt_z (z +ℤ a) (z +ℤ b) ≡ t
    go true h =
        let n = below a b h in
        ap (lt_z (z +ℤ a)) (ap (λ b. z +ℤ b) n.1 ∙ move z a (suc n.0)) ∙ is_below (z +ℤ a) n.0
    go false h =
        let n = above b a h in
        ap (λ x. lt_z x (z +ℤ b)) (ap (λ a. z +ℤ a) n.1 ∙ move z b n.0) ∙ not_below (z +ℤ b) n.0

-- above a is what is not below the number after it
above_not_below : (a z : ℤ) → lt_z a z ≡ not (lt_z z (a +ℤ pos 1))
above_not_below a z = go (lt_z a z) refl
  where
    go : (t : Bool) → lt_z a z ≡ t → t ≡ not (lt_z z (a +ℤ pos 1))
    go true h =
        let n = below a z h in
        let e : suc n.0 ≡ 1 + n.0 = omega arith in
        ap not (sym (ap (λ z. lt_z z (a +ℤ pos 1)) (n.1 ∙ ap (λ m. a +ℤ pos m) e ∙ sym (+ℤ_assoc a (pos 1) (pos n.0))) ∙ not_below (a +ℤ pos 1) n.0))
    go false h =
        let n = above z a h in
        ap not (sym (ap (lt_z z) (ap (λ a. a +ℤ pos 1) n.1 ∙ +ℤ_assoc z (pos n.0) (pos 1) ∙ ap (λ m. z +ℤ pos m) (add-one n.0)) ∙ is_below z n.0))

-- z + (a - z) is a
pub add_difference : (z a : ℤ) → z +ℤ (a -ℤ z) ≡ a
add_difference z a = +ℤ_comm z (a -ℤ z) ∙ -ℤ-+ℤ_cancel a z

-- a range first..last, and how far its numbers lie from its first one
module _ (first last : ℤ) (some : lt_z last first ≡ false) where
  pub since_le : (z : ℤ) → lt_z z first ≡ false → lt_z last z ≡ false → since first z ≤ since first last
  since_le z lo hi =
      ltb-false (since first last) (since first z)
      (sym (lt_add first (since first last) (since first z)) ∙ ap₂ lt_z (add_since first last some) (add_since first z lo) ∙ hi)

  pub not_above : (n : ℕ) → n ≤ since first last → lt_z last (first +ℤ pos n) ≡ false
  not_above n h =
      ap (λ l. lt_z l (first +ℤ pos n)) (sym (add_since first last some)) ∙ lt_add first (since first last) n
      ∙ le-ltb (since first last) n h

  pub inside : (n : ℕ) → n ≤ since first last → outside first last (first +ℤ pos n) ≡ false
  inside n h = ap₂ ◌||◌ (not_below first n) (not_above n h)

-- `outside`, taken apart
pub outside_no : (first last z : ℤ) → outside first last z ≡ false → (lt_z z first ≡ false) × (lt_z last z ≡ false)
outside_no first last z = or_no (lt_z z first) (lt_z last z)

pub not_outside : (first last z : ℤ) → lt_z z first ≡ false → lt_z last z ≡ false → outside first last z ≡ false
not_outside first last z lo hi = ap₂ ◌||◌ lo hi

-- a number of a range lies in every wider one
pub wider :
    (first last low high z : ℤ) → lt_z first low ≡ false → lt_z high last ≡ false → outside first last z ≡ false → outside low high z ≡ false
wider first last low high z p q h =
    let t = outside_no first last z h in
    not_outside low high z (not_below_trans z first low t.0 p) (not_below_trans high last z q t.1)

-- y lies outside from..to exactly if z does outside first..last, where it is below the one's ends exactly if z is below the other's
pub outside_as :
    (y from to z first last : ℤ) → lt_z y from ≡ lt_z z first → lt_z y (to +ℤ pos 1) ≡ lt_z z (last +ℤ pos 1) → outside from to y ≡ outside first last z
outside_as y from to z first last p q = ap₂ ◌||◌ p (above_not_below to y ∙ ap not q ∙ sym (above_not_below last z))

pub below_outside : (first last z : ℤ) → lt_z z first ≡ true → outside first last z ≡ true
below_outside first last z lo = ap (λ t. t || lt_z last z) lo

-- `eq_z`, taken apart
pub eq_z_same : (z : ℤ) → eq_z z z ≡ true
eq_z_same (pos a) = eq-eqb a a refl
eq_z_same (negsuc a) = eq-eqb a a refl

pub eq_z_true : (a b : ℤ) → eq_z a b ≡ true → a ≡ b
eq_z_true (pos a) (pos b) h = ap pos (eqb-true a b h)
eq_z_true (pos a) (negsuc b) h = no_both false h refl
eq_z_true (negsuc a) (pos b) h = no_both false h refl
eq_z_true (negsuc a) (negsuc b) h = ap negsuc (eqb-true a b h)

-- the number added to `first` is one only
pub add_injective : (first : ℤ) (m n : ℕ) → first +ℤ pos m ≡ first +ℤ pos n → m ≡ n
add_injective first m n e = sym (since_add first m) ∙ ap (since first) e ∙ since_add first n
