-- What the floored quotient and remainder are: z = q·d + r with r below d.
use Prim.Native.Nat.{ℕ, zero, suc, ◌-◌, ◌*◌, ◌/◌, ◌%◌, ◌<◌}
use mathlib.Core.Path.{◌≡◌, ap, ◌∙◌}
use native.Mathlib.Omega.{arith}
use native.Mathlib.Nat.{div-add-mod', mod-lt}
use lib.IntN.{ℤ, pos, negsuc, neg_ℤ, ◌+ℤ◌, ◌*ℤ◌}
use Rattle.numbers.specs.Floor.{floor_quotient, floor_remainder}
use Rattle.numbers.proofs.Integers.{sub_neg}

pub remainder_below : (z : ℤ) (d : ℕ) → 0 < d → floor_remainder z d < d
remainder_below (pos a) d h = mod-lt a h
remainder_below (negsuc a) d h = omega arith

-- -n + r, where r is less
pub neg_add : (n r : ℕ) → r < n → neg_ℤ (pos n) +ℤ pos r ≡ negsuc (n - suc r)
neg_add zero r h = absurd (omega arith)
neg_add (suc n) r h = sub_neg r (suc n) h

pub quotient_and_remainder : (z : ℤ) (d : ℕ) → 0 < d → floor_quotient z d *ℤ pos d +ℤ pos (floor_remainder z d) ≡ z
quotient_and_remainder (pos a) d h = ap pos (div-add-mod' a d)
quotient_and_remainder (negsuc a) d h =
    let e = div-add-mod' a d in
    let l = mod-lt a h in
    neg_add (suc (a / d) * d) (d - 1 - a % d) (omega arith) ∙ ap negsuc (omega arith)
