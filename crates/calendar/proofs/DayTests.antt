-- The test of a day against the length of an accepted month.
use Prim.Native.Nat.{ℕ, ◌+◌, ◌*◌, ◌≤◌}
use mathlib.Core.Path.{◌≡◌, refl, sym, ap, ◌∙◌}
use mathlib.Core.Bool.{Bool, true, false, cond, not}
use native.Mathlib.Omega.{arith}
use lib.Dec.{lit<}
use lib.IntN.{ℤ, pos, nat_abs, ◌+ℤ◌}
use lib.ListN.{get_or}
use borrow.Author.Tests.{ne_eqb}
use mir.Syntax.{w64}
use mir.Val.{SFits, to_z, of_z}
use mir.Facts.{to_z-of_z, to_z_pos}
use Rattle.numbers.specs.Range.{outside}
use Rattle.numbers.proofs.Between.{natural_within, inside_pos}
use Rattle.numbers.proofs.Bools.{no_both}
use Rattle.numbers.proofs.Machine.{key_is}
use Rattle.calendar.specs.Gregorian.{month_length}
use Rattle.calendar.specs.Closed.{base_year, leapℕ, leap_day, month_days, common_lengths}
use Rattle.calendar.proofs.Leap.{leap_le}
use Rattle.calendar.proofs.Months.{length_le, length_public, with_leap_day}

-- the length of an accepted month, in a year that is counted from base_year
module _ (year month : ℤ) (y : ℕ) (h : outside (pos 1) (pos 12) month ≡ false) (e : base_year +ℤ pos y ≡ year) where
  pub accepted_length : month_length year month ≡ pos (month_days (leap_day y) (nat_abs month))
  accepted_length =
      let n = natural_within 1 (pos 12) month h in
      (λ i. month_length (sym e i) (n.is i)) ∙ length_public y (nat_abs month) n.low n.high

-- whether a month of a year with l leap days has the day
abbrev has_day : (l m : ℕ) (day : ℤ) → Bool
has_day l m day = not (outside (pos 1) (pos (month_days l m)) day)

-- what the test against the n days that the month has in a common year, whose answer is t, says of a year
module _ (y m n : ℕ) (day : ℤ) (t : Bool) (lo : 1 ≤ m) (hi : m ≤ 12) (f : SFits w64 day) (e : n ≡ get_or common_lengths m 0)
    (r : t ≡ outside (pos 1) (to_z w64 n) (to_z w64 (of_z w64 day))) where
  days_is : n ≡ month_days 0 m
  unfolding month_days
  days_is = e

  tested : t ≡ outside (pos 1) (pos (month_days 0 m)) day
  tested =
      let l = length_le 0 m (omega arith) lo hi in
      let d = days_is in
      r ∙ (λ i. outside (pos 1) ((to_z_pos w64 (omega arith) ∙ ap pos d) i) (to_z-of_z f i))

  -- a day of the common year stays one
  pub common_day : t ≡ false → true ≡ has_day (leap_day y) m day
  common_day h =
      let l = leap_day y in
      let b = natural_within 1 (pos (month_days 0 m)) day (sym tested ∙ h) in
      ap not (sym (ap (outside (pos 1) (pos (month_days l m))) b.is
      ∙ inside_pos 1 (month_days l m) (nat_abs day) b.low (omega (arith, b.high, with_leap_day l m lo hi))))

  -- the months but February have no more days
  pub no_other_day : t ≡ true → (m ≡ 2 → ⊥) → false ≡ has_day (leap_day y) m day
  no_other_day h other =
      let p : month_days 0 m + 0 * leap_day y ≡ month_days (leap_day y) m = rw (ne_eqb m 2 other) at (with_leap_day (leap_day y) m lo hi) in
      ap not (sym (sym tested ∙ h) ∙ ap (λ d. outside (pos 1) (pos d) day) (omega (arith, p)))

  -- and February has one more in a leap year
  pub leap_february : (leap : Bool) → m ≡ 2 → of_z w64 day ≡ 29 → leap ≡ leapℕ y → leap ≡ has_day (leap_day y) m day
  unfolding leap_day month_days
  leap_february leap a b c = c ∙ go (leapℕ y) ∙ (λ i. has_day (leap_day y) (sym a i) (sym (key_is f 29 (lit< tt) b) i))
    where
      go : (t : Bool) → t ≡ has_day (cond t 1 0) 2 (pos 29)
      go true = refl
      go false = refl

  pub no_february_day : t ≡ true → m ≡ 2 → (of_z w64 day ≡ 29 → ⊥) → false ≡ has_day (leap_day y) m day
  unfolding month_days
  no_february_day h a other = ap not (sym (ap (λ m. outside (pos 1) (pos (month_days (leap_day y) m)) day) a ∙ go (outside (pos 1) (pos (28 + leap_day y)) day) refl))
    where
      in_february : outside (pos 1) (pos (month_days 0 2)) day ≡ true
      in_february = ap (λ m. outside (pos 1) (pos (month_days 0 m)) day) (sym a) ∙ sym tested ∙ h

      go : (u : Bool) → outside (pos 1) (pos (28 + leap_day y)) day ≡ u → u ≡ true
      go true k = refl
      go false k =
          let b = natural_within 1 (pos (28 + leap_day y)) day k in
          let d : nat_abs day ≡ 29 → ⊥ = λ q. other (ap (of_z w64) (b.is ∙ ap pos q)) in
          let l = leap_le y in
          no_both _ in_february (ap (outside (pos 1) (pos 28)) b.is ∙ inside_pos 1 28 (nat_abs day) b.low (omega (arith, b.high)))

-- what the test of a day needs
pub ruleset day_rules = (common_day, no_other_day, leap_february, no_february_day)
