-- The claims of the multiply-and-shift constants of digits and times, as the sheet has them: the checker accepts each.
use Rattle.std.proofs.Common.{◌≡◌, ℕ, ◌+◌, ◌*◌, ◌/◌, ◌%◌, ◌^◌, ◌<◌, refl, ap, ◌∙◌, arith}
use Rattle.constants.specs.Limits.{outside_limits}
use Rattle.constants.specs.Difference.{differs, exact_quotient, device_quotient}
use Rattle.constants.specs.Answers.{difference}
use Rattle.constants.proofs.Trials.{Accepted, accepts, by_shift}

pub hundredth : Accepted 1 0 100 5243 0 19 43699
unfolding outside_limits difference differs exact_quotient device_quotient
hundredth = accepts 1 0 100 5243 0 19 43699 refl (omega arith) (λ n q r h e l. (omega arith, omega arith)) refl

pub tenth : Accepted 1 0 10 103 0 10 179
unfolding outside_limits difference differs exact_quotient device_quotient
tenth = accepts 1 0 10 103 0 10 179 refl (omega arith) (λ n q r h e l. (omega arith, omega arith)) refl

pub sixtieth : Accepted 1 0 60 71582789 0 32 97612919
unfolding outside_limits difference differs exact_quotient device_quotient
sixtieth = accepts 1 0 60 71582789 0 32 97612919 refl (omega arith) (λ n q r h e l. (omega arith, omega arith)) refl

pub thousandth : Accepted 1 0 1000 4294968 0 32 6100999
unfolding outside_limits difference differs exact_quotient device_quotient
thousandth = accepts 1 0 1000 4294968 0 32 6100999 refl (omega arith) (λ n q r h e l. (omega arith, omega arith)) refl

-- what follows by the law for such claims
pub hundreds_are : (n : ℕ) → n < 43699 → n * 5243 / 2 ^ 19 ≡ n / 100
hundreds_are n h = ap (λ x. x / 2 ^ 19) (omega arith) ∙ by_shift 1 0 100 5243 0 19 43699 hundredth n h ∙ ap (λ x. x / 100) (omega arith)

pub tens_are : (n : ℕ) → n < 179 → n * 103 / 2 ^ 10 ≡ n / 10
tens_are n h = ap (λ x. x / 2 ^ 10) (omega arith) ∙ by_shift 1 0 10 103 0 10 179 tenth n h ∙ ap (λ x. x / 10) (omega arith)

pub hours_are : (n : ℕ) → n < 97612919 → n * 71582789 / 2 ^ 32 ≡ n / 60
hours_are n h = ap (λ x. x / 2 ^ 32) (omega arith) ∙ by_shift 1 0 60 71582789 0 32 97612919 sixtieth n h ∙ ap (λ x. x / 60) (omega arith)

pub seconds_are : (n : ℕ) → n < 6100999 → n * 4294968 / 2 ^ 32 ≡ n / 1000
seconds_are n h = ap (λ x. x / 2 ^ 32) (omega arith) ∙ by_shift 1 0 1000 4294968 0 32 6100999 thousandth n h ∙ ap (λ x. x / 1000) (omega arith)

-- what is left of the products
pub behind_hours : (n : ℕ) → n < 97612919 → 60 * (n * 71582789 % 2 ^ 32) ≡ 4294967296 * (n % 60) + 44 * n
behind_hours n h = omega (arith, hours_are n h)

pub behind_seconds : (n : ℕ) → n < 6100999 → 1000 * (n * 4294968 % 2 ^ 32) ≡ 4294967296 * (n % 1000) + 704 * n
behind_seconds n h = omega (arith, seconds_are n h)
