-- The rule of the table, by one test of each entry that is computed, and what the product computes.
use Prim.Native.Nat.{ℕ, zero, suc, ◌+◌, ◌-◌, ◌*◌, ◌/◌, ◌%◌, ◌^◌, ◌≤◌, ◌<◌}
use mathlib.Core.Path.{◌≡◌, refl, sym, ap, ap₂, ◌∙◌, subst}
use mathlib.Core.Bool.{Bool, true, false, ◌&&◌}
use mathlib.Core.List.{List, [], ◌∷◌}
use native.Mathlib.Decide.{dec_lt}
use native.Mathlib.Nat.{add-zero, zero-add, add-suc, suc-add, le_of_suc-le-suc, not-suc-le-zero}
use native.Mathlib.Omega.{arith}
use lib.Dec.{eqb, leb}
use lib.ListN.{length, get_or}
use borrow.Author.Tests.{eqb-true, le-ltb, leb-true, le-leb, lt-leb}
use mir.Val.{bool_byte}
use Rattle.numbers.proofs.Bools.{and_left, and_right}
use Rattle.constants.proofs.Trials.{by_shift}
use Rattle.day_table.specs.Table.{entries}
use Rattle.day_table.specs.Year.{Month, months, month_in, day_in, month_at, day_at, month_and_day}
use Rattle.day_table.specs.Closed.{new_year, closed_month, closed_day}
use Rattle.day_table.proofs.Records.{month}

-- a test passes at each entry of a list and its place, counted from i
every : (test : ℕ → ℕ → Bool) → ℕ → List ℕ → Bool
every test i [] = true
every test i (x ∷ xs) = test i x && every test (suc i) xs

at_place : (test : ℕ → ℕ → Bool) (xs : List ℕ) (i : ℕ) → every test i xs ≡ true → (k : ℕ) → k < length xs → test (i + k) (get_or xs k 0) ≡ true
unfolding every
at_place test [] i t k h = absurd (not-suc-le-zero h)
at_place test (x ∷ xs) i t zero h = subst (λ (j : ℕ). test j x ≡ true) (sym (add-zero i)) (and_left (test i x) (every test (suc i) xs) t)
at_place test (x ∷ xs) i t (suc k) h =
    subst (λ (j : ℕ). test j (get_or xs k 0) ≡ true) (suc-add i k ∙ sym (add-suc i k))
    (at_place test xs (suc i) (and_right (test i x) (every test (suc i) xs) t) k (le_of_suc-le-suc h))

-- past the end of a list, and of the days of some months
past : (xs : List ℕ) (k : ℕ) → length xs ≤ k → get_or xs k 0 ≡ 0
past [] k h = refl
past (x ∷ xs) zero h = absurd (not-suc-le-zero h)
past (x ∷ xs) (suc k) h = past xs k (le_of_suc-le-suc h)

abbrev days : List Month → ℕ
days [] = 0
days (m ∷ ms) = m.length + days ms

past_months : (ms : List Month) (k : ℕ) → days ms ≤ k → (month_in ms k ≡ 0) × (day_in ms k ≡ 0)
past_months [] k h = (refl, refl)
past_months (m ∷ ms) k h = rw (le-ltb k m.length (omega arith)) (past_months ms (k - m.length) (omega arith))

-- the rule: an entry is the month and the day, and these are the closed forms
follows : ℕ → ℕ → Bool
follows k x = eqb x (256 * month_in months k + day_in months k) && (eqb (month_in months k) (closed_month k) && eqb (day_in months k) (closed_day k))

all_follow : every follows 0 entries ≡ true
unfolding every follows
all_follow = refl

followed : (k : ℕ) → k < 366 → follows k (get_or entries k 0) ≡ true
followed k h = subst (λ (j : ℕ). follows j (get_or entries k 0) ≡ true) (zero-add k) (at_place follows entries 0 all_follow k h)

-- a day of the year, and one that is none
pub in_year : (k : ℕ) → k < 366 → (month_at k ≡ closed_month k) × (day_at k ≡ closed_day k)
unfolding month_at day_at follows
in_year k h =
    let f = and_right (eqb (get_or entries k 0) _) _ (followed k h) in
    (eqb-true _ _ (and_left (eqb (month_in months k) (closed_month k)) _ f), eqb-true _ _ (and_right (eqb (month_in months k) (closed_month k)) _ f))

pub no_month : (k : ℕ) → 366 ≤ k → month_at k ≡ 0
unfolding month_at
no_month k h = (past_months months k h).0

pub no_day : (k : ℕ) → 366 ≤ k → day_at k ≡ 0
unfolding day_at
no_day k h = (past_months months k h).1

pub rule : (k : ℕ) → get_or entries k 0 ≡ month_and_day k
unfolding month_at day_at follows
rule k = go (dec_lt k 366)
  where
    go : Dec (k < 366) → get_or entries k 0 ≡ 256 * month_in months k + day_in months k
    go (yes h) = eqb-true _ _ (and_left (eqb (get_or entries k 0) _) _ (followed k h))
    go (no h) =
        let e = past_months months k (omega arith) in
        past entries k (omega arith) ∙ ap₂ (λ m d. 256 * m + d) (sym e.0) (sym e.1)

pub small : (k : ℕ) → (month_at k ≤ 14) × (day_at k ≤ 31)
small k = go (dec_lt k 366)
  where
    go : Dec (k < 366) → (month_at k ≤ 14) × (day_at k ≤ 31)
    go (yes h) = let e = in_year k h in (omega (arith, e.0), omega (arith, e.1))
    go (no h) = (omega (arith, no_month k (omega arith)), omega (arith, no_day k (omega arith)))

-- when month m begins, in days and in the product
starts : (m : ℕ) → 3 ≤ m → m ≤ 14 → Dec (m < 4) →
    (65536 * m ≤ 2141 * ((153 * m - 457) / 5) + 197913) × (2141 * ((153 * m - 457) / 5) + 197913 < 65536 * m + 2141)
starts m lo hi (yes l) = let e : m ≡ 3 = omega arith in rw e (omega arith, omega arith)
starts m lo hi (no l) = (omega arith, omega arith)

left : (k m s f d : ℕ) → d + s ≡ k → f + 65536 * m ≡ 2141 * k + 197913 → 65536 * m ≤ 2141 * s + 197913 → 2141 * s + 197913 < 65536 * m + 2141 → f / 2141 ≡ d
left k m s f d p q lo hi = omega arith

-- January and February come after December
pub new_year_lem : (k : ℕ) → (new_year k ≤ 1) × (12 * new_year k ≤ (5 * k + 461) / 153)
new_year_lem k = go (leb 306 k) refl
  where
    go : (t : Bool) → leb 306 k ≡ t → (bool_byte t ≤ 1) × (12 * bool_byte t ≤ (5 * k + 461) / 153)
    go true e = let l = leb-true 306 k e in (omega arith, omega arith)
    go false e = (omega arith, omega arith)

-- the product's month follows from its record, and the day from what is left of the product
module _ (k : ℕ) (h : k < 366) where
  pub month_is : (2141 * k + 197913) / 2 ^ 16 ≡ (5 * k + 461) / 153
  month_is = by_shift 5 461 153 2141 197913 16 734 month k (omega arith)

  pub day_is : (2141 * k + 197913) % 2 ^ 16 / 2141 ≡ (5 * k + 461) % 153 / 5
  day_is =
      let m = (5 * k + 461) / 153 in
      let s = starts m (omega arith) (omega arith) (dec_lt m 4) in
      left k m ((153 * m - 457) / 5) _ _ (omega arith) (omega (arith, month_is)) s.0 s.1

  pub month_late : 306 ≤ k → (2141 * k + 197913) / 2 ^ 16 - 12 ≡ month_at k
  month_late l = ap (λ m. m - 12) month_is ∙ sym ((in_year k h).0 ∙ rw (le-leb 306 k l))

  pub month_early : k < 306 → (2141 * k + 197913) / 2 ^ 16 ≡ month_at k
  month_early l = month_is ∙ sym ((in_year k h).0 ∙ rw (lt-leb 306 k l) (omega arith))

  pub day_at_lem : (2141 * k + 197913) % 2 ^ 16 / 2141 + 1 ≡ day_at k
  day_at_lem = ap (λ d. d + 1) day_is ∙ sym (in_year k h).1

-- what `month` needs of these
pub ruleset month_rules = (no_month, month_is, month_late, month_early)
