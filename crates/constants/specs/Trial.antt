-- For proofs and private contracts only: the tested constants as natural numbers, and what was defined of plain numbers, of a set of them.
use Rattle.std.specs.Prelude.{ℕ, ◌<◌, nat_abs, true, false, ◌≡◌, Result, Ok, Err}
use Rattle.refusal.specs.declared.Refusal.{Refusal}
use Rattle.refusal.specs.declared.Refusal.TheVariants.{ConstantOutOfLimits}
use Rattle.constants.specs.declared.Constants.{Constants}
use Rattle.constants.specs.declared.trial.Trial.{Trial}
use Rattle.constants.specs.Limits.{outside_limits}
use Rattle.constants.specs.Difference.{exact_quotient, device_quotient, apart}

-- the constants are within their limits, and these are they
pub record IsTrialOf (given : Constants) (q : Trial) : Type 0 where
  pub inside : outside_limits given.a given.b given.d given.m given.c given.k given.t ≡ false
  pub a_is : q.a ≡ nat_abs given.a
  pub b_is : q.b ≡ nat_abs given.b
  pub d_is : q.d ≡ nat_abs given.d
  pub m_is : q.m ≡ nat_abs given.m
  pub c_is : q.c ≡ nat_abs given.c
  pub k_is : q.k ≡ nat_abs given.k
  pub t_is : q.t ≡ nat_abs given.t

-- what the test of the constants tells
abbrev pub TestsConstants : Constants → Result Trial Refusal → Type 0
TestsConstants given (Ok q) = IsTrialOf given q
TestsConstants given (Err why) = (outside_limits given.a given.b given.d given.m given.c given.k given.t ≡ true) × (why ≡ ConstantOutOfLimits)

abbrev pub exact : Trial → ℕ → ℕ
exact q n = exact_quotient q.a q.b q.d n

abbrev pub device : Trial → ℕ → ℕ
device q n = device_quotient q.m q.c q.k n

-- a difference at n, as an inequality
abbrev pub DifferenceAt : Trial → ℕ → Type 0
DifferenceAt q n = q.t < apart (exact q n) (device q n)
