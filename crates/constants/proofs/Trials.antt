-- A claim with tolerance 0: how it is shown accepted for numbers that are written out, and what it then says. Whoever divides by a
-- multiplication and a shift shows its claim by `accepts` and uses it by `by_shift`.
use Prim.Native.Nat.{ℕ, ◌+◌, ◌*◌, ◌/◌, ◌%◌, ◌^◌, ◌≤◌, ◌<◌}
use mathlib.Core.Path.{◌≡◌, sym, subst}
use mathlib.Core.Bool.{true, false, ◌||◌}
use native.Mathlib.Nat.{div-eq_of_lt-le, div-add-mod, mod-lt}
use native.Mathlib.Decide.{dec_lt}
use native.Mathlib.Omega.{arith}
use lib.IntN.{pos}
use Rattle.refusal.specs.Outcome.{value}
use Rattle.constants.specs.Difference.{exact_quotient, device_quotient, apart}
use Rattle.constants.specs.Limits.{outside_limits, bound_outside}
use Rattle.constants.specs.Answers.{accepted, difference, bound_answer}
use Rattle.constants.proofs.Laws.{difference_exactly, accepted_exactly, accepted_equal}

-- a multiplier that is too small falls behind first where the division leaves nothing, which only some quotients do
pub rest_or_none : {P : Type 0} (r : ℕ) → (1 ≤ r → P) → (r ≡ 0 → P) → P
rest_or_none {P} r some none = go (dec_lt 0 r)
  where
    go : Dec (0 < r) → P
    go (yes h) = some h
    go (no h) = none (omega arith)

module _ (a b d m c k B : ℕ) where
  -- the checker accepts the claim
  abbrev pub Accepted : Type 0
  Accepted = bound_answer (pos a) (pos b) (pos d) (pos m) (pos c) (pos k) (pos 0) (pos B) ≡ value accepted

  -- then the device's quotient is the exact one, below the bound
  pub by_shift : Accepted → (n : ℕ) → n < B → (m * n + c) / 2 ^ k ≡ (a * n + b) / d
  unfolding exact_quotient device_quotient
  by_shift e n lt = sym (accepted_equal a b d m c k B e n lt)

  -- it does if q times 2^k and one times more are on both sides of the device's number, for the quotient q and the rest r
  pub accepts :
      (outside_limits (pos a) (pos b) (pos d) (pos m) (pos c) (pos k) (pos 0) || bound_outside (pos B)) ≡ false → 0 < d →
      ((n q r : ℕ) → n < B → a * n + b ≡ d * q + r → r < d → (q * 2 ^ k ≤ m * n + c) × (m * n + c < (q + 1) * 2 ^ k)) →
      difference (pos a) (pos b) (pos d) (pos m) (pos c) (pos k) (pos 0) B ≡ true → Accepted
  unfolding exact_quotient device_quotient
  accepts inside positive around here =
      (accepted_exactly a b d m c k 0 B inside).1 (same, (difference_exactly a b d m c k 0 B).0 here)
    where
      same : (n : ℕ) → n < B → apart ((a * n + b) / d) ((m * n + c) / 2 ^ k) ≤ 0
      same n lt =
          let p = around n ((a * n + b) / d) ((a * n + b) % d) lt (sym (div-add-mod (a * n + b) d)) (mod-lt (a * n + b) positive) in
          let e = div-eq_of_lt-le (2 ^ k) p.0 (subst (λ (s : ℕ). m * n + c < s) (omega arith) p.1) in
          omega (arith, e)
