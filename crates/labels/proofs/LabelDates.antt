-- The date of a label: the entries of the months, and the sum that they go into.
use Rattle.std.proofs.Common.{◌≡◌, ℕ, ◌+◌, ◌-◌, ◌*◌, ◌/◌, ◌%◌, ◌^◌, ◌<◌, ◌≤◌, ℤ, pos, ◌+ℤ◌, ◌-ℤ◌, ap, ◌∙◌, arith, w64, SFits, to_z}
use lib.IntN.{+ℤ_assoc, +ℤ_comm}
use Rattle.numbers.proofs.Machine.{read, add_first, add_first_is}
use Rattle.calendar.specs.Closed.{cycle, leap_day, month_days, before, day_number}
use Rattle.labels.specs.Parts.{month_entry}
use Rattle.calendar.proofs.Leap.{leap_le}
use Rattle.calendar.proofs.Months.{length_le}
use Rattle.calendar.proofs.Centuries.{count_zero, century_start}

-- the entry of month m in a year with l leap days
module _ (l m : ℕ) (h : l ≤ 1) (lo : 1 ≤ m) (hi : m ≤ 12) where
  -- an entry's rest is the month's length
  pub entry_days : month_entry l m % 32 ≡ month_days l m
  entry_days = let s = length_le l m h lo hi in omega arith

  -- its quotient is the days before the month, 1 more in a common year
  entry_before : month_entry l m / 32 ≡ before l m + 1 - l
  entry_before = let s = length_le l m h lo hi in omega arith

-- the sum that the code takes of a century, a year of it, an entry and a day
abbrev pub date_sum : (c y e d : ℕ) → ℕ
date_sum c y e d = cycle * c / 4 + 1461 * y / 4 + e / 32 + d

-- it is the day's number, counted from 1
pub date_sum_lem :
    (c y m d e : ℕ) → y < 100 → 1 ≤ m → m ≤ 12 → 1 ≤ d → e ≡ month_entry (leap_day (100 * c + y)) m → date_sum c y e d ≡ day_number (100 * c + y) m d + 1
unfolding day_number
date_sum_lem c y m d e h lo hi k p =
    sum _ _ _ _ _ _ (leap_le (100 * c + y)) (century_start c y h) (ap (λ e. e / 32) p ∙ entry_before _ m (leap_le (100 * c + y)) lo hi)
  where
    sum : (A B S l b E : ℕ) → l ≤ 1 → A + B + 1 ≡ S + l → E ≡ b + 1 - l → A + B + E + d ≡ S + b + (d - 1) + 1
    sum A B S l b E u v w = omega arith

-- the count of the day before the year 0, from which the sum counts
abbrev before_zero : ℤ
before_zero = count_zero -ℤ pos 1

-- what the code makes of a sum
module _ (s : ℕ) (small : s < 2 ^ 32) where
  -- it fits
  pub count_fits : SFits w64 (to_z w64 s +ℤ before_zero)
  count_fits = add_first before_zero s (omega arith)

  -- it is the count of the first day of the year 0 and a number, where the sum is that number and 1
  pub count_made : (n : ℕ) → s ≡ n + 1 → read (to_z w64 s +ℤ before_zero) ≡ count_zero +ℤ pos n
  count_made n e =
      add_first_is before_zero s (omega arith) ∙ ap (λ s. pos s +ℤ before_zero) e ∙ +ℤ_assoc (pos n) (pos 1) before_zero ∙ +ℤ_comm (pos n) count_zero
