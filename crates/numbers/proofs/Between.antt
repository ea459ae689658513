-- What a range test that code has made says of the number.
use Prim.Native.Nat.{ℕ, ◌+◌, ◌≤◌, ◌<◌, ◌^◌}
use mathlib.Core.Path.{◌≡◌, refl, sym, ap, ◌∙◌, subst}
use mathlib.Core.Bool.{Bool, true, false}
use native.Mathlib.Omega.{arith}
use lib.IntN.{ℤ, pos, negsuc, nat_abs, ◌+ℤ◌}
use lib.Dec.{T}
use lib.Signed.{lt_z, non_neg}
use borrow.Author.Tests.{ltb-false, le-ltb}
use mir.Syntax.{Width, w32, w64}
use mir.Val.{SFits, Fits}
use mir.Facts.{to_z-of_z}
use Rattle.numbers.specs.Range.{outside, Within}
use Rattle.numbers.proofs.Integers.{outside_no, not_outside, lt_add}
use Rattle.numbers.proofs.Machine.{read, pos_fits, cast_pos}
use Rattle.numbers.proofs.Bools.{no_both}

-- a number between two that fit
pub fits_between : (w : Width) (first last z : ℤ) → SFits w first → SFits w last → outside first last z ≡ false → SFits w z
fits_between w first last z f g h = go first last z f g (outside_no first last z h).0 (outside_no first last z h).1
  where
    go : (first last z : ℤ) → SFits w first → SFits w last → lt_z z first ≡ false → lt_z last z ≡ false → SFits w z
    go first (pos b) (pos a) f g lo hi = record { sfits = omega (arith, g.sfits, ltb-false b a hi) }
    go first (negsuc b) (pos a) f g lo hi = no_both true refl hi
    go (pos b) last (negsuc a) f g lo hi = no_both true refl lo
    go (negsuc b) last (negsuc a) f g lo hi = record { sfits = omega (arith, f.sfits, ltb-false b a lo) }

pub natural_within : (first : ℕ) (last z : ℤ) → outside (pos first) last z ≡ false → Within first (nat_abs last) z
natural_within first (pos last) (pos n) h =
    let t = outside_no (pos first) (pos last) (pos n) h in
    record { is = refl; low = ltb-false n first t.0; high = ltb-false last n t.1 }
natural_within first (negsuc last) (pos n) h = no_both true refl (outside_no (pos first) (negsuc last) (pos n) h).1
natural_within first last (negsuc n) h = no_both true refl h

module _ {first last : ℕ} {z : ℤ} (f : SFits w64 z) (t : Within first last z) where
  pub read_high : nat_abs (read z) ≤ last
  read_high = subst (λ (y : ℤ). nat_abs y ≤ last) (sym (to_z-of_z f)) t.high

  pub cast_within : T (non_neg (read z)) × Fits w64 (nat_abs (read z))
  cast_within =
      let l = (subst (SFits w64) t.is f).sfits in
      cast_pos w64 (nat_abs z) (omega arith) (to_z-of_z f ∙ t.is)

-- a number in 0..k as an unsigned one of 32 bits, and back
module _ (k : ℕ) (h : k < 2 ^ 32) (z : ℤ) (e : outside (pos 0) (pos k) z ≡ false) where
  small_fits : SFits w64 z
  small_fits = let w = natural_within 0 (pos k) z e in let l = w.high in subst (SFits w64) (sym w.is) (pos_fits (omega arith))

  pub abs_read : nat_abs (read z) ≡ nat_abs z
  abs_read = ap nat_abs (to_z-of_z small_fits)

  pub cast_small : T (non_neg (read z)) × Fits w32 (nat_abs (read z))
  cast_small = let w = natural_within 0 (pos k) z e in let l = w.high in cast_pos w32 (nat_abs z) (omega arith) (to_z-of_z small_fits ∙ w.is)

  pub read_below : nat_abs (read z) < k + 1
  read_below = let w = natural_within 0 (pos k) z e in let l = w.high in omega (arith, abs_read)

-- numbers that lie in a range, as natural numbers and from any first number on
pub inside_pos : (a b n : ℕ) → a ≤ n → n ≤ b → outside (pos a) (pos b) (pos n) ≡ false
inside_pos a b n h k = not_outside (pos a) (pos b) (pos n) (le-ltb n a h) (le-ltb b n k)

-- and one that does not
pub outside_pos : (a b n : ℕ) → (a ≤ n → n ≤ b → ⊥) → outside (pos a) (pos b) (pos n) ≡ true
outside_pos a b n none = go (outside (pos a) (pos b) (pos n)) refl
  where
    go : (t : Bool) → outside (pos a) (pos b) (pos n) ≡ t → t ≡ true
    go true e = refl
    go false e = let w = natural_within a (pos b) (pos n) e in absurd (none w.low w.high)

pub inside_from : (first : ℤ) (a b n : ℕ) → a ≤ n → n ≤ b → outside (first +ℤ pos a) (first +ℤ pos b) (first +ℤ pos n) ≡ false
inside_from first a b n h k =
    not_outside (first +ℤ pos a) (first +ℤ pos b) (first +ℤ pos n) (lt_add first n a ∙ le-ltb n a h) (lt_add first b n ∙ le-ltb b n k)
