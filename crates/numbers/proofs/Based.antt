-- A number in a range, counted from a base that is not above its first.
use Prim.Native.Nat.{◌≤◌, ◌<◌, ◌^◌}
use mathlib.Core.Path.{◌≡◌, sym, ap, ap₂, ◌∙◌}
use mathlib.Core.Bool.{false}
use native.Mathlib.Omega.{arith}
use lib.Dec.{T}
use lib.IntN.{ℤ, pos, nat_abs, ◌+ℤ◌, ◌-ℤ◌}
use lib.Signed.{lt_z, non_neg}
use borrow.Author.Tests.{ltb-false}
use mir.Syntax.{Width, w64}
use mir.Val.{SFits, Fits, bits}
use Rattle.numbers.specs.Range.{outside, since}
use Rattle.numbers.proofs.Integers.{outside_no, not_below_trans, add_since, since_le, lt_add}
use Rattle.numbers.proofs.Machine.{read, from_first, from_first_cast, from_first_is}

module _ (base first last : ℤ) (from_base : lt_z first base ≡ false) (some : lt_z last base ≡ false) (z : ℤ) (h : outside first last z ≡ false) where
  pub low : lt_z z base ≡ false
  low = not_below_trans z first base (outside_no first last z h).0 from_base

  pub high : lt_z last z ≡ false
  high = (outside_no first last z h).1

  pub is : base +ℤ pos (since base z) ≡ z
  is = add_since base z low

  pub from : since base first ≤ since base z
  from =
      ltb-false (since base z) (since base first)
      (sym (lt_add base (since base z) (since base first)) ∙ ap₂ lt_z is (add_since base first from_base) ∙ (outside_no first last z h).0)

  pub to : since base z ≤ since base last
  to = since_le base last some z low high

  -- the machine's difference, and the cast of it
  module _ (near : since base last < 2 ^ 63) (fits : SFits w64 z) where
    pub sub_fits : SFits w64 (read z -ℤ base)
    sub_fits = from_first base last some near fits low high

    pub cast_fits : (w : Width) → since base last < 2 ^ bits w → T (non_neg (read (read z -ℤ base))) × Fits w (nat_abs (read (read z -ℤ base)))
    cast_fits = from_first_cast base last some near fits low high

    pub cast_is : nat_abs (read (read z -ℤ base)) ≡ since base z
    cast_is = from_first_is base last some near fits low high

    -- what a count from the base says, and what a year does
    pub counted : (nat_abs (read (read z -ℤ base)) ≡ since base z) × (nat_abs (read (read z -ℤ base)) ≤ since base last)
    counted = (cast_is, omega (arith, cast_is, to))

    pub numbered : (base +ℤ pos (nat_abs (read (read z -ℤ base))) ≡ z)
        × ((since base first ≤ nat_abs (read (read z -ℤ base))) × (nat_abs (read (read z -ℤ base)) ≤ since base last))
    numbered = (ap (λ n. base +ℤ pos n) cast_is ∙ is, (omega (arith, cast_is, from), counted.1))
