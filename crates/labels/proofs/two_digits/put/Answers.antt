use Rattle.std.proofs.Common.{◌≡◌, ℕ, zero, suc, ◌+◌, ◌*◌, ◌/◌, ◌%◌, ◌<◌, Bool, true, eqb, ◌&&◌, List, get_or, refl, subst, arith, eqb-true}
use native.Mathlib.Decide.{dec_lt}
use Rattle.numbers.proofs.Bools.{and_left, and_right}
use Rattle.labels.specs.declared.two_digits.TheConstants.{PAIRS}
use Rattle.std.proofs.Common.{set, ap₂, ◌∙◌, add-one}
use Rattle.text.specs.Filled.{filled}
use Rattle.labels.proofs.two_digits.put.Goals as goal

-- what a test says that was made of all numbers below one
abbrev all_below : (test : ℕ → Bool) → ℕ → Bool
all_below test zero = true
all_below test (suc n) = test n && all_below test n

each_below : (test : ℕ → Bool) (count n : ℕ) → all_below test count ≡ true → n < count → test n ≡ true
each_below test zero n h l = absurd (omega arith)
each_below test (suc count) n h l = go (λ k. each_below test count n (and_right (test count) (all_below test count) h) k) (dec_lt n count)
  where
    go : (n < count → test n ≡ true) → Dec (n < count) → test n ≡ true
    go before (yes k) = before k
    go before (no k) = let e : count ≡ n = omega arith in subst (λ n. test n ≡ true) e (and_left (test count) (all_below test count) h)

abbrev shows : (table : List ℕ) (n : ℕ) → Bool
shows table n = eqb (get_or table (2 * n) 0) (48 + n / 10 % 10) && eqb (get_or table (2 * n + 1) 0) (48 + n % 10)

shown : (table : List ℕ) (n : ℕ) → shows table n ≡ true → (get_or table (2 * n) 0 ≡ 48 + n / 10 % 10) × (get_or table (2 * n + 1) 0 ≡ 48 + n % 10)
shown table n t =
    let a = get_or table (2 * n) 0 in
    let b = get_or table (2 * n + 1) 0 in (
      eqb-true a (48 + n / 10 % 10) (and_left (eqb a (48 + n / 10 % 10)) (eqb b (48 + n % 10)) t),
      eqb-true b (48 + n % 10) (and_right (eqb a (48 + n / 10 % 10)) (eqb b (48 + n % 10)) t),
    )

digits_shown : (n : ℕ) → n < 100 → (get_or PAIRS (2 * n) 0 ≡ 48 + n / 10 % 10) × (get_or PAIRS (2 * n + 1) 0 ≡ 48 + n % 10)
digits_shown n h = shown PAIRS n (each_below (shows PAIRS) 100 n refl h)

pub returns : goal.returns
unfolding filled
returns c =
    let a = c.args in
    let d = digits_shown a.n c.requires.0 in
    rw (add-one a.at) (ap₂ (λ x y. set (set a.out.now a.at x) (suc a.at) y) (c.digit.ensures ∙ d.0) (c.digit-2.ensures ∙ d.1))
