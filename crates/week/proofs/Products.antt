-- Year and week of a day from products: source document 000, section 7, for years that begin in January. Day n lies in the century C; w
-- is its number as if every fourth year were leap, and Y its year.
use Prim.Native.Nat.{ℕ, ◌+◌, ◌-◌, ◌*◌, ◌/◌, ◌%◌, ◌^◌, ◌≤◌, ◌<◌}
use mathlib.Core.Path.{◌≡◌, refl, sym, ap, ◌∙◌, subst}
use native.Mathlib.Decide.{dec_lt}
use native.Mathlib.Omega.{arith}
use Rattle.calendar.specs.Closed.{cycle, regular_day, days_end}
use Rattle.calendar.proofs.Conversion.{day_of_lem}
use Rattle.calendar.proofs.Quotients.{week_product}
use Rattle.week.specs.Closed.{first_day, InYear}
use Rattle.week.proofs.Years.{first_day_is}

abbrev century_at : ℕ → ℕ
century_at n = (4 * n + 3) / cycle

abbrev pub year_of : ℕ → ℕ
year_of n = (4 * regular_day n + 3) / 1461

-- the day of the year, from 0
abbrev pub day_of_year : ℕ → ℕ
day_of_year n = regular_day n - 1461 * year_of n / 4

pub week_is : (n : ℕ) → n < days_end → (regular_day n + 1) * 23517959 % 2 ^ 33 * 13357 / 2 ^ 41 ≡ day_of_year n / 7
week_is n h = week_product (regular_day n) (omega arith) ∙ omega (arith, day_of_lem (regular_day n))

-- the century of a day, and of its year
century_of_lem : (n C w : ℕ) → C ≡ (4 * n + 3) / cycle → w ≡ n + C - C / 4 → (36525 * C ≤ w) × (w < 36525 * (C + 1))
century_of_lem n C w e f = omega arith

century_of_year : (w C Y : ℕ) → 36525 * C ≤ w → w < 36525 * (C + 1) → Y ≡ (4 * w + 3) / 1461 → Y / 100 ≡ C
century_of_year w C Y lo hi e = omega arith

-- a day comes before the next year, which begins in the same century or begins the next one
in_century : (n C w Y : ℕ) → C ≡ (4 * n + 3) / cycle → w ≡ n + C - C / 4 → Y ≡ (4 * w + 3) / 1461 → n < 1461 * (Y + 1) / 4 - C + C / 4
in_century n C w Y a b c = omega arith

of_century : (n C : ℕ) → C ≡ (4 * n + 3) / cycle → n < 1461 * (100 * (C + 1)) / 4 - (C + 1) + (C + 1) / 4
of_century n C a = omega arith

from_first : (n C w Y : ℕ) → C ≡ (4 * n + 3) / cycle → w ≡ n + C - C / 4 → Y ≡ (4 * w + 3) / 1461 →
    (1461 * Y / 4 - C + C / 4 ≤ n) × (n - (1461 * Y / 4 - C + C / 4) ≡ w - 1461 * Y / 4)
from_first n C w Y a b c = omega arith

-- the year that the products tell is the day's, and so is its day
module _ (n : ℕ) where
  century_is : year_of n / 100 ≡ century_at n
  century_is =
      let c = century_of_lem n (century_at n) (regular_day n) refl refl in
      century_of_year (regular_day n) (century_at n) (year_of n) c.0 c.1 refl

  first_is : first_day (year_of n) ≡ 1461 * year_of n / 4 - century_at n + century_at n / 4
  first_is = sym (first_day_is (year_of n)) ∙ ap (λ c. 1461 * year_of n / 4 - c + c / 4) century_is

  before_next : Dec (year_of n % 100 < 99) → n < first_day (year_of n + 1)
  before_next (yes h) =
      let c : (year_of n + 1) / 100 ≡ century_at n = omega (arith, century_is) in
      subst (λ d. n < d) (ap (λ c. 1461 * (year_of n + 1) / 4 - c + c / 4) (sym c) ∙ first_day_is (year_of n + 1)) (in_century n _ _ _ refl refl refl)
  before_next (no h) =
      let e : year_of n + 1 ≡ 100 * (century_at n + 1) = omega (arith, century_is) in
      let c : 100 * (century_at n + 1) / 100 ≡ century_at n + 1 = omega arith in
      subst (λ d. n < d)
      (ap (λ c. 1461 * (100 * (century_at n + 1)) / 4 - c + c / 4) (sym c) ∙ first_day_is (100 * (century_at n + 1)) ∙ ap first_day (sym e))
      (of_century n _ refl)

  pub in_year : InYear n (year_of n)
  in_year =
      let f = from_first n (century_at n) (regular_day n) (year_of n) refl refl refl in
      record { low = subst (λ d. d ≤ n) (sym first_is) f.0; high = before_next (dec_lt (year_of n % 100) 99) }

  pub day_is : n - first_day (year_of n) ≡ day_of_year n
  day_is = ap (λ d. n - d) first_is ∙ (from_first n (century_at n) (regular_day n) (year_of n) refl refl refl).1
