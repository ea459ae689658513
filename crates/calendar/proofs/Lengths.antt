-- The two ways to a month's length: what the match on the month answers with the leap day that February adds, and the month's bits.
use Prim.Native.Nat.{ℕ, ◌+◌, ◌*◌, ◌/◌, ◌^◌, ◌≤◌, ◌<◌}
use mathlib.Core.Path.{◌≡◌, refl, sym, ap, ap₂, ◌∙◌, subst}
use mathlib.Core.Bool.{Bool, true, false, cond}
use native.Mathlib.Omega.{arith}
use lib.Bits.{bit_or, bit_xor}
use lib.Dec.{eqb}
use lib.IntN.{ℤ, pos, nat_abs, ◌+ℤ◌}
use mir.Syntax.{w64}
use mir.Val.{SFits, to_z, of_z, bool_byte}
use mir.Facts.{to_z-of_z, to_z_pos}
use Rattle.refusal.specs.Outcome.{Outcome, value, refused}
use Rattle.numbers.specs.Range.{outside, Within}
use Rattle.numbers.proofs.Between.{natural_within}
use Rattle.numbers.proofs.Machine.{read, pos_fits, key_is}
use Rattle.refusal.proofs.Outcomes.{passes, refuses, not_refused, same_value}
use Rattle.calendar.specs.Range.{first_year, last_year}
use Rattle.calendar.specs.Gregorian.{month_length}
use Rattle.calendar.specs.Answers.{last_day_answer}
use Rattle.calendar.specs.Checked.{year_answer, month_answer, length_answer}
use Rattle.calendar.specs.Closed.{base_year, leapℕ, leap_day, month_days}
use Rattle.calendar.proofs.Tests.{year_passes, month_passes}
use Rattle.calendar.proofs.Months.{each_month, length_le, length_public, with_leap_day}

-- a month is refused with its year
pub last_day_refuses : (year month : ℤ) (k : ℕ) → SFits w64 year → refused k ≡ year_answer (to_z w64 (of_z w64 year)) → refused k ≡ last_day_answer year month
unfolding year_answer last_day_answer
last_day_refuses year month k f e = refuses (outside first_year last_year year) 1 _ _ (not_refused _ _) (e ∙ ap year_answer (to_z-of_z f))

-- and else answered with its length in the year
pub last_day_accepts :
    (year month : ℤ) (y : ℕ) (o : Outcome ℤ) → SFits w64 year → SFits w64 month → value y ≡ year_answer (to_z w64 (of_z w64 year)) →
    o ≡ length_answer (leap_day y) (to_z w64 (of_z w64 month)) → o ≡ last_day_answer year month
unfolding length_answer last_day_answer
last_day_accepts year month y o f g p q =
    let t = year_passes year y (p ∙ ap year_answer (to_z-of_z f)) in
    q ∙ ap (length_answer (leap_day y)) (to_z-of_z g) ∙ go (outside (pos 1) (pos 12) month) refl t.1 ∙ ap (λ u. cond u (refused 1) (cond (outside (pos 1) (pos 12) month) (refused 2) (value (month_length year month)))) (sym t.0)
  where
    go :
        (t : Bool) → outside (pos 1) (pos 12) month ≡ t → base_year +ℤ pos y ≡ year →
        cond t (refused 2) (value (pos (month_days (leap_day y) (nat_abs month)))) ≡ cond t (refused 2) (value (month_length year month))
    go true g e = refl
    go false g e =
        let n = natural_within 1 (pos 12) month g in
        ap value (sym (length_public y (nat_abs month) n.low n.high) ∙ (λ i. month_length (e i) (sym n.is i)))

-- what the length of a year's month needs
pub ruleset last_day_rules = (last_day_refuses, last_day_accepts)

-- by bits: what `days_of` computes

abbrev pub days_by_bits : (l m : ℕ) → ℕ
days_by_bits l m = cond (eqb m 2) (28 + l) (bit_or 30 (bit_xor m (m / 2 ^ 3)))

pub bits_days : (l m : ℕ) → 1 ≤ m → m ≤ 12 → days_by_bits l m ≡ month_days l m
unfolding month_days
bits_days l = each_month (λ m. days_by_bits l m ≡ month_days l m) (omega arith)

-- a month that is refused has no length
pub length_refuses : (month : ℤ) (l k : ℕ) → SFits w64 month → refused k ≡ month_answer (to_z w64 (of_z w64 month)) → refused k ≡ length_answer l month
unfolding month_answer length_answer
length_refuses month l k f e = refuses (outside (pos 1) (pos 12) month) 2 _ _ (not_refused _ _) (e ∙ ap month_answer (to_z-of_z f))

-- and an accepted one has that of its number
pub length_accepts :
    (month : ℤ) (y m r : ℕ) (leap : Bool) → SFits w64 month → value m ≡ month_answer (to_z w64 (of_z w64 month)) → leap ≡ leapℕ y →
    r ≡ month_days (cond leap 1 0) m → r ≤ 31 → value (to_z w64 r) ≡ length_answer (leap_day y) month
unfolding length_answer leap_day
length_accepts month y m r leap f e b p s =
    let t = month_passes month m (e ∙ ap month_answer (to_z-of_z f)) in
    rw t.0 (ap value (to_z_pos w64 (omega arith) ∙ ap pos (p ∙ (λ i. month_days (cond (b i) 1 0) (t.1 i)))))

-- what the length by bits needs
pub ruleset bits_rules = (length_refuses, length_accepts)

-- by the match

module _ (month : ℤ) (f : SFits w64 month) where
  pub at_key : (k : ℕ) → k < 2 ^ 63 → of_z w64 month ≡ k → length_answer 0 (pos k) ≡ length_answer 0 month
  at_key k small e = ap (length_answer 0) (sym (key_is f k small e))

  pub no_key : ((k : ℕ) → 1 ≤ k → k ≤ 12 → of_z w64 month ≡ k → ⊥) → refused 2 ≡ length_answer 0 month
  unfolding length_answer
  no_key none = go (outside (pos 1) (pos 12) month) refl
    where
      go : (t : Bool) → outside (pos 1) (pos 12) month ≡ t → refused 2 ≡ cond t (refused 2) (value (pos (month_days 0 (nat_abs month))))
      go true e = refl
      go false e = let n = natural_within 1 (pos 12) month e in absurd (none (nat_abs month) n.low n.high (ap (of_z w64) n.is))

-- a month that the match refuses is refused whatever the leap days
pub match_refuses : (month : ℤ) (l k : ℕ) → SFits w64 month → refused k ≡ length_answer 0 (to_z w64 (of_z w64 month)) → refused k ≡ length_answer l month
unfolding length_answer
match_refuses month l k f e = refuses (outside (pos 1) (pos 12) month) 2 _ _ (not_refused _ _) (e ∙ ap (length_answer 0) (to_z-of_z f))

-- the length of an accepted month with the leap day
module _ (month len : ℤ) (l : ℕ) (h : l ≤ 1) (f : SFits w64 month) (e : value len ≡ length_answer 0 (to_z w64 (of_z w64 month))) where
  passed : (outside (pos 1) (pos 12) month ≡ false) × (len ≡ pos (month_days 0 (nat_abs month)))
  unfolding length_answer
  passed = let p = passes (outside (pos 1) (pos 12) month) 2 _ (e ∙ ap (length_answer 0) (to_z-of_z f)) in (p.0, same_value p.1)

  number : Within 1 12 month
  number = natural_within 1 (pos 12) month passed.0

  days : month_days 0 (nat_abs month) + bool_byte (eqb (of_z w64 month) 2) * l ≡ month_days l (nat_abs month)
  days =
      let n = number in
      ap (λ (z : ℤ). month_days 0 (nat_abs month) + bool_byte (eqb (of_z w64 z) 2) * l) n.is
      ∙ with_leap_day l (nat_abs month) n.low n.high

  small : month_days l (nat_abs month) ≤ 31
  small = length_le l (nat_abs month) h number.low number.high

  sum : read len +ℤ to_z w64 (bool_byte (eqb (of_z w64 month) 2) * l) ≡ pos (month_days l (nat_abs month))
  sum =
      let d = days in
      let s = small in
      ap₂ ◌+ℤ◌ (ap read passed.1 ∙ to_z-of_z (pos_fits (omega arith))) (to_z_pos w64 {n = bool_byte (eqb (of_z w64 month) 2) * l} (omega arith)) ∙ ap pos d

  pub length_fits : SFits w64 (read len +ℤ to_z w64 (bool_byte (eqb (of_z w64 month) 2) * l))
  length_fits = let s = small in subst (SFits w64) (sym sum) (pos_fits (omega arith))

  pub length_is : value (read (read len +ℤ to_z w64 (bool_byte (eqb (of_z w64 month) 2) * l))) ≡ length_answer l month
  unfolding length_answer
  length_is = rw passed.0 (ap value (to_z-of_z length_fits ∙ sum))

-- what the length by the match needs
pub ruleset match_rules = (match_refuses, length_fits, length_is)
