-- The step to a value: there is one, and one only.
use Prim.Native.Nat.{ℕ, zero, suc, ◌+◌, ◌-◌, ◌%◌}
use mathlib.Core.Path.{◌≡◌, refl, sym, ap, ◌∙◌}
use mathlib.Core.Bool.{true, false}
use native.Mathlib.Omega.{arith}
use lib.Dec.{lit<}
use lib.IntN.{ℤ, pos, negsuc, neg_ℤ, sub_ℕ, ◌+ℤ◌, ◌-ℤ◌}
use lib.Signed.{lt_z}
use borrow.Author.Tests.{ltb-true, ltb-false, lt-ltb, le-ltb}
use Rattle.numbers.specs.Floor.{floor_remainder}
use Rattle.numbers.proofs.Floor.{remainder_below}
use Rattle.numbers.proofs.Integers.{on_sub, sub_neg, sub_pos}
use Rattle.numbers.proofs.Quotients.{remainder_add}
use Rattle.transport.specs.Wraps.{wrap, half, Step, lead_to, step_to}

-- the remainder of a number's negative
remainder_neg : (z : ℤ) → floor_remainder (neg_ℤ z) wrap ≡ (wrap - floor_remainder z wrap) % wrap
remainder_neg (pos zero) = omega arith
remainder_neg (pos (suc a)) = omega arith
remainder_neg (negsuc a) = omega arith

module _ (position value : ℤ) where
  -- how far the step lies above its least, by the two remainders
  abbrev pub aim : ℕ
  aim = (floor_remainder value wrap + (wrap + half) - floor_remainder position wrap) % wrap

  pub lead : lead_to position value ≡ aim
  lead =
      let a = remainder_add wrap (lit< tt) (value -ℤ position) (pos half) in
      let b = remainder_add wrap (lit< tt) value (neg_ℤ position) in
      let n = remainder_neg position in
      let k = remainder_below position wrap (lit< tt) in
      omega arith

  -- it fits, within the limits
  pub step_exists : Step position value (step_to position value)
  step_exists = go (lead_to position value) lead
    where
      go : (r : ℕ) → r ≡ aim → Step position value (sub_ℕ r half)
      go r e = record {
        low = on_sub (λ s. lt_z s (neg_ℤ (pos half)) ≡ false) r half (λ l. le-ltb (half - 1) (half - suc r) (omega arith)) (λ l. refl);
        high = on_sub (λ s. lt_z s (pos half) ≡ true) r half (λ l. refl) (λ l. lt-ltb (r - half) half (omega arith));
        fits =
            let a = remainder_add wrap (lit< tt) position (sub_ℕ r half) in
            let k = remainder_below position wrap (lit< tt) in
            let v = remainder_below value wrap (lit< tt) in
            let s : floor_remainder (sub_ℕ r half) wrap ≡ (r + half) % wrap =
            on_sub (λ s. floor_remainder s wrap ≡ (r + half) % wrap) r half (λ l. omega arith) (λ l. omega arith) in
            omega arith;
      }

  -- and no other does
  pub step_is_one : (s : ℤ) → Step position value s → s ≡ step_to position value
  step_is_one s w = go (lead_to position value) lead s w.low w.high (sym (remainder_add wrap (lit< tt) position s) ∙ w.fits)
    where
      go :
          (r : ℕ) → r ≡ aim → (s : ℤ) → lt_z s (neg_ℤ (pos half)) ≡ false → lt_z s (pos half) ≡ true →
          (floor_remainder position wrap + floor_remainder s wrap) % wrap ≡ floor_remainder value wrap → s ≡ sub_ℕ r half
      go r e (pos a) low high fits =
          let l = ltb-true a half high in
          let k = remainder_below position wrap (lit< tt) in
          let m : r ≡ a + half = omega arith in
          sym (sub_pos r half (omega arith) ∙ ap pos (omega arith))
      go r e (negsuc a) low high fits =
          let l = ltb-false (half - 1) a low in
          let k = remainder_below position wrap (lit< tt) in
          let m : r + suc a ≡ half = omega arith in
          sym (sub_neg r half (omega arith) ∙ ap negsuc (omega arith))

-- a position and a difference
add_sub : (p a b : ℕ) → pos p +ℤ sub_ℕ a b ≡ sub_ℕ (p + a) b
add_sub p a b =
    on_sub (λ z. pos p +ℤ z ≡ sub_ℕ (p + a) b) a b
    (λ h. on_sub (λ z. z ≡ sub_ℕ (p + a) b) p (suc (b - suc a))
    (λ k. ap negsuc (omega arith) ∙ sym (sub_neg (p + a) b (omega arith)))
    (λ k. ap pos (omega arith) ∙ sym (sub_pos (p + a) b (omega arith))))
    (λ h. ap pos (omega arith) ∙ sym (sub_pos (p + a) b (omega arith)))

-- a number that lies `half` ahead of what a value leads to
module _ (p v a : ℕ) (e : a ≡ p + lead_to (pos p) (pos v)) where
  pub ahead_is : pos p +ℤ step_to (pos p) (pos v) ≡ sub_ℕ a half
  ahead_is = add_sub p (lead_to (pos p) (pos v)) half ∙ ap (λ x. sub_ℕ x half) (sym e)
