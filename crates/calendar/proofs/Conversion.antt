-- What the two conversions compute, in the machine's numbers.
use Prim.Native.Nat.{ℕ, ◌+◌, ◌-◌, ◌*◌, ◌/◌, ◌%◌, ◌^◌, ◌≤◌, ◌<◌}
use mathlib.Core.Path.{◌≡◌, refl, sym, ap, ◌∙◌, subst}
use mathlib.Core.Bool.{Bool, true, false}
use native.Mathlib.Nat.{sub-zero}
use native.Mathlib.Omega.{arith}
use lib.IntN.{pos, ◌+ℤ◌, +ℤ_comm}
use lib.Dec.{leb}
use borrow.Author.Tests.{leb-true, leb-false}
use mir.Syntax.{w64}
use mir.Val.{to_z, bool_byte}
use mir.Facts.{to_z_pos}
use Rattle.numbers.proofs.Machine.{read, add_first_is}
use Rattle.calendar.specs.Gregorian.{date_of, date_after}
use Rattle.day_table.specs.Closed.{new_year, closed_month, closed_day}
use Rattle.day_table.proofs.Rule.{new_year_lem}
use Rattle.calendar.specs.Closed.{cycle, from_year, base_year, last_day, first_from_march, leap_day, leaps, start, before, Valid, InRange, day_number, public, before_march}
use Rattle.calendar.proofs.Leap.{leaps_step, leaps_next, few}
use Rattle.calendar.proofs.Months.{before_early, before_late}
use Rattle.calendar.proofs.Steps.{number_in_range}
use Rattle.calendar.proofs.Quotients.{hundredth_product}
use Rattle.calendar.proofs.March.{century_of, day_of_century, year_of_century, day_of_march_year, century_sum, algorithm_3}

-- a date of natural numbers as the machine makes it
pub made : (y m d : ℕ) → y < 2 ^ 32 → m < 2 ^ 32 → d < 2 ^ 32 → date_of (read (to_z w64 y +ℤ base_year)) (to_z w64 m) (to_z w64 d) ≡ public y m d
made y m d hy hm hd =
    let p = add_first_is base_year y (omega arith) ∙ +ℤ_comm (pos y) base_year in
    let q = to_z_pos w64 {n = m} (omega arith) in
    let r = to_z_pos w64 {n = d} (omega arith) in
    λ i. date_of (p i) (q i) (r i)

-- the day as if every fourth year were leap, and the year that begins in March and its day as the code takes them from it
abbrev pub regular : ℕ → ℕ
regular n = n + first_from_march + century_of n - century_of n / 4

abbrev pub march_year : ℕ → ℕ
march_year n = (4 * regular n + 3) / 1461

abbrev pub march_day : ℕ → ℕ
march_day n = regular n - 1461 * march_year n / 4

regular_is : (n : ℕ) → regular n ≡ 36525 * century_of n + day_of_century n
regular_is n = omega (arith, century_sum (n + first_from_march))

year_of_lem : (w C R : ℕ) → w ≡ 36525 * C + R → (4 * w + 3) / 1461 ≡ 100 * C + (4 * R + 3) / 1461
year_of_lem w C R e = omega arith

rest_of : (w C R : ℕ) → w ≡ 36525 * C + R → (4 * w + 3) % 1461 ≡ (4 * R + 3) % 1461
rest_of w C R e = omega (arith, year_of_lem w C R e)

pub day_of_lem : (w : ℕ) → w - 1461 * ((4 * w + 3) / 1461) / 4 ≡ (4 * w + 3) % 1461 / 4
day_of_lem w = omega arith

pub same_year : (n : ℕ) → march_year n ≡ 100 * century_of n + year_of_century n
same_year n = year_of_lem (regular n) (century_of n) (day_of_century n) (regular_is n)

pub same_day : (n : ℕ) → march_day n ≡ day_of_march_year n
same_day n = day_of_lem (regular n) ∙ ap (λ r. r / 4) (rest_of (regular n) (century_of n) (day_of_century n) (regular_is n))

-- a test as a number
flag_le : (t : Bool) → bool_byte t ≤ 1
flag_le true = omega arith
flag_le false = omega arith

-- what the code's steps ask of the numbers, and what they come to
module _ (n : ℕ) (h : n ≤ last_day) where
  pub new_year_le : new_year (march_day n) ≤ 1
  new_year_le = (new_year_lem (march_day n)).0

  pub day_small : march_day n ≤ 365
  day_small = omega (arith, same_day n)

  pub year_fits : march_year n + new_year (march_day n) < 2 ^ 32
  year_fits = omega (arith, new_year_le)

  pub date_made :
      {y m d : ℕ} → y ≡ march_year n + new_year (march_day n) → m ≡ closed_month (march_day n) → d ≡ closed_day (march_day n) →
      date_of (read (to_z w64 y +ℤ base_year)) (to_z w64 m) (to_z w64 d) ≡ date_after n
  date_made {y} {m} {d} p q r =
      let l = day_small in
      let f = year_fits in
      made y m d (omega arith) (omega arith) (omega arith)
      ∙ (λ i. public (p i) (q i) (r i))
      ∙ (λ i. public (same_year n i + new_year (same_day n i)) (closed_month (same_day n i)) (closed_day (same_day n i)))
      ∙ sym (algorithm_3 n)

pub before_march_le : (m : ℕ) → before_march m ≤ 1
before_march_le m = flag_le (leb m 2)

-- algorithm 4 of source document 000, section 6, with the table of the days before each month
early_sum : (y Y L B b d A C D : ℕ) → Y + 1 ≡ y → L + C ≡ A + D + 1 → C ≤ A → B ≡ b → 1 ≤ d → 365 * y + B + d + (A - C + D) ≡ 365 * y + L + b + (d - 1)
early_sum y Y L B b d A C D e p k q h = omega arith

late_sum : (y L L' l B b d A C D : ℕ) → L' ≡ L + l → L' + C ≡ A + D + 1 → C ≤ A → b ≡ B + l → 1 ≤ d → 365 * y + B + d + (A - C + D) ≡ 365 * y + L + b + (d - 1)
late_sum y L L' l B b d A C D e p k q h = omega arith

-- the sum that the code takes, with b days before the month and the century c
abbrev pub day_sum : (y m b c d : ℕ) → ℕ
day_sum y m b c d = 365 * y + b + d + ((y - before_march m) / 4 - c + c / 4)

algorithm_4 : (y m d b : ℕ) → Valid y m d → from_year ≤ y → b ≡ before 0 m → day_sum y m b ((y - before_march m) / 100) d ≡ day_number y m d
unfolding day_number start
algorithm_4 y m d b v lo f = go (leb m 2) refl
  where
    go : (t : Bool) → leb m 2 ≡ t →
        365 * y + b + d + ((y - bool_byte t) / 4 - (y - bool_byte t) / 100 + (y - bool_byte t) / 100 / 4)
        ≡ 365 * y + leaps y + before (leap_day y) m + (d - 1)
    go true e =
        let h = leb-true m 2 e in
        let p : y - 1 + 1 ≡ y = omega arith in
        early_sum y (y - 1) (leaps y) b (before (leap_day y) m) d _ _ _ p
        (subst (λ x. leaps x + (y - 1) / 100 ≡ (y - 1) / 4 + (y - 1) / 100 / 4 + 1) p (leaps_next (y - 1)))
        (few (y - 1)) (f ∙ sym (before_early (leap_day y) m v.month_low (omega arith))) v.day_low
    go false e =
        let h = leb-false m 2 e in
        rw sub-zero
        (late_sum y (leaps y) (leaps (y + 1)) (leap_day y) b (before (leap_day y) m) d _ _ _ (leaps_step y) (leaps_next y)
        (few y) (before_late (leap_day y) m (omega arith) v.month_high ∙ ap (λ b. b + leap_day y) (sym f)) v.day_low)

-- with the century by its product it is the day's number, and lies in the range
pub day_number_lem :
    (y m d b : ℕ) → InRange y m d → b ≡ before 0 m →
    let s = day_sum y m b ((y - before_march m) * 167773 / 2 ^ 24) d in
    (s ≡ day_number y m d) × ((cycle ≤ s) × (s ≤ cycle + last_day))
day_number_lem y m d b r e =
    let p = hundredth_product (y - before_march m) (omega (arith, r.to)) in
    let s = ap (λ c. day_sum y m b c d) p ∙ algorithm_4 y m d b r.is_valid r.from e in
    let c = number_in_range y m d r in
    (s, (subst (λ n. cycle ≤ n) (sym s) c.0, subst (λ n. n ≤ cycle + last_day) (sym s) c.1))
