-- Quotients by a product and a shift. Each follows from its record by one law, `by_shift`; what is left of a product follows from the
-- quotient.
use Prim.Native.Nat.{ℕ, ◌+◌, ◌-◌, ◌*◌, ◌/◌, ◌%◌, ◌^◌, ◌≤◌, ◌<◌}
use mathlib.Core.Path.{◌≡◌, ap, ◌∙◌}
use native.Mathlib.Nat.{div-eq_of_lt-le}
use native.Mathlib.Omega.{arith}
use Rattle.constants.proofs.Trials.{by_shift}
use Rattle.calendar.specs.Closed.{cycle, regular_day, days_end}
use Rattle.calendar.proofs.Records as records

-- the century of day n, and its year where every fourth year is leap; days are counted from 0 here and from 1 in the products
pub century_product : (n : ℕ) → n < 50366940 → (n + 1) * 120414423 / 2 ^ 42 ≡ (4 * n + 3) / cycle
century_product n h = ap (λ x. x / 2 ^ 42) (omega arith) ∙ by_shift 4 3 cycle 120414423 120414423 42 50366940 records.century n h

pub year_product : (n : ℕ) → n < 31934172 → (n + 1) * 23517959 / 2 ^ 33 ≡ (4 * n + 3) / 1461
year_product n h = ap (λ x. x / 2 ^ 33) (omega arith) ∙ by_shift 4 3 1461 23517959 23517959 33 31934172 records.year n h

-- the regular day, as code has it of a day that is counted from 1
abbrev pub coded : ℕ → ℕ
coded d = d - d * 120414423 / 2 ^ 42 / 4 + d * 120414423 / 2 ^ 42

pub coded_is : (n : ℕ) → n < days_end → coded (n + 1) ≡ regular_day n + 1
coded_is n h = ap (λ c. n + 1 - c / 4 + c) (century_product n (omega arith)) ∙ sum ((4 * n + 3) / cycle) (omega arith)
  where
    sum : (c : ℕ) → c ≤ n + 1 → n + 1 - c / 4 + c ≡ n + c - c / 4 + 1
    sum c l = omega arith

-- the year from January of day n from March, counted from 1
pub january_product : (n : ℕ) → n < 31933018 → (n * 23517959 + 1393439081) / 2 ^ 33 ≡ (4 * n + 236) / 1461
january_product n h = ap (λ x. (x + 1393439081) / 2 ^ 33) (omega arith) ∙ by_shift 4 236 1461 23517959 1393439081 33 31933018 records.january_year n h

pub seventh_product : (n : ℕ) → n < 1431655770 → n * 613566757 / 2 ^ 32 ≡ n / 7
seventh_product n h = ap (λ x. x / 2 ^ 32) (omega arith) ∙ by_shift 1 0 7 613566757 0 32 1431655770 records.seventh n h ∙ ap (λ x. x / 7) (omega arith)

pub hundredth_product : (n : ℕ) → n < 199799 → n * 167773 / 2 ^ 24 ≡ n / 100
hundredth_product n h = ap (λ x. x / 2 ^ 24) (omega arith) ∙ by_shift 1 0 100 167773 0 24 199799 records.hundredth n h ∙ ap (λ x. x / 100) (omega arith)

-- what is left of the year's product is 2^33 for each of the 1461 parts that are left of the division, and a little less
fraction : (n q r f : ℕ) → 4 * n + 3 ≡ 1461 * q + r → (n + 1) * 23517959 ≡ q * 2 ^ 33 + f → f * 1461 + 269 * (n + 1) ≡ 2 ^ 33 * (r + 1)
fraction n q r f p s = omega arith

day_bounds : (n r f k : ℕ) → n < 31900000 → f * 1461 + 269 * (n + 1) ≡ 2 ^ 33 * (r + 1) → 4 * k ≤ r → r < 4 * (k + 1) →
    (k * 2 ^ 35 ≤ f * 1461) × (f * 1461 < (k + 1) * 2 ^ 35)
day_bounds n r f k h e lo hi = (omega arith, omega arith)

week_bounds : (n r f w : ℕ) → n < 24106500 → r < 1461 → f * 1461 + 269 * (n + 1) ≡ 2 ^ 33 * (r + 1) → 28 * w ≤ r → r < 28 * (w + 1) →
    (w * 2 ^ 41 ≤ f * 13357) × (f * 13357 < (w + 1) * 2 ^ 41)
week_bounds n r f w h l e lo hi = (omega arith, omega arith)

-- a quotient from its bounds
shifted : (x q e : ℕ) → 0 < e → (q * e ≤ x) × (x < (q + 1) * e) → x / e ≡ q
shifted x q e h b = div-eq_of_lt-le e b.0 (omega (arith, b.1))

module _ (n : ℕ) (h : n < 24106500) where
  abbrev product : ℕ
  product = (n + 1) * 23517959

  left : product % 2 ^ 33 * 1461 + 269 * (n + 1) ≡ 2 ^ 33 * ((4 * n + 3) % 1461 + 1)
  left = fraction n ((4 * n + 3) / 1461) ((4 * n + 3) % 1461) (product % 2 ^ 33) (omega arith) (omega (arith, year_product n (omega arith)))

  -- the day of the year, and which seven days of it that is one of
  pub day_product : product % 2 ^ 33 * 1461 / 2 ^ 35 ≡ (4 * n + 3) % 1461 / 4
  day_product =
      shifted _ _ (2 ^ 35) (omega arith)
      (day_bounds n ((4 * n + 3) % 1461) (product % 2 ^ 33) ((4 * n + 3) % 1461 / 4) (omega arith) left (omega arith) (omega arith))

  pub week_product : product % 2 ^ 33 * 13357 / 2 ^ 41 ≡ (4 * n + 3) % 1461 / 28
  week_product =
      shifted _ _ (2 ^ 41) (omega arith)
      (week_bounds n ((4 * n + 3) % 1461) (product % 2 ^ 33) ((4 * n + 3) % 1461 / 28) (omega arith) (omega arith) left (omega arith) (omega arith))
