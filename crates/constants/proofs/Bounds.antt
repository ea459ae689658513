-- What the limits of the constants bound.
use mathlib.Core.Path.{◌≡◌}
use Prim.Native.Nat.{ℕ, ◌+◌, ◌*◌, ◌-◌, ◌/◌, ◌%◌, ◌^◌, ◌≤◌, ◌<◌}
use native.Mathlib.Nat.{mul-le-mul, mod-lt, div-le_self}
use native.Mathlib.Omega.{arith}
use lib.Pow.{pow_mono}
use Rattle.constants.specs.declared.trial.Trial.{Trial}
use Rattle.constants.specs.Limits.{last_b, last_k, last_t}
use Rattle.constants.specs.Residues.{Narrow}
use Rattle.constants.proofs.Arithmetic.{one_shifted}

module _ (q : Trial) where
  -- `1 << k` at 64 bits
  pub power_is : (1 * 2 ^ q.k) % 2 ^ 64 ≡ 2 ^ q.k
  power_is = one_shifted q.k (omega (arith, q.allowed.k_hi))

  pub power_le : 2 ^ q.k ≤ 2 ^ last_k
  power_le = pow_mono q.allowed.k_hi

  -- what the two quotients move in a period, scaled
  pub device_period : q.m * q.d < 2 ^ 52
  device_period = omega (arith, mul-le-mul q.allowed.m_hi q.allowed.d_hi)

  pub exact_period : q.a * 2 ^ q.k < 2 ^ 57
  exact_period = omega (arith, mul-le-mul q.allowed.a_hi power_le)

  -- what a side starts with
  pub first_le : q.b / q.d ≤ last_b
  first_le = omega (arith, div-le_self q.b q.d, q.allowed.b_hi)

  pub above_hi : (q.b / q.d + q.t + 1) * 2 ^ q.k ≤ (last_b + last_t + 1) * 2 ^ last_k
  above_hi = let le : q.b / q.d + q.t + 1 ≤ last_b + last_t + 1 = omega (arith, first_le, q.allowed.t_hi) in mul-le-mul le power_le

  pub below_hi : q.t * 2 ^ q.k ≤ last_t * 2 ^ last_k
  below_hi = mul-le-mul q.allowed.t_hi power_le

  pub first_hi : q.b / q.d * 2 ^ q.k ≤ last_b * 2 ^ last_k
  first_hi = mul-le-mul first_le power_le

  -- so its numbers are small, on either side of a gain
  narrow : (need have gain : ℕ) → need < 2 ^ 59 → have < 2 ^ 59 → gain < 2 ^ 59 → Narrow q.a q.d q.m (2 ^ q.k) (q.b % q.d) need have gain
  narrow need have gain need_lt have_lt gain_lt =
      record {
        a_hi = q.allowed.a_hi;
        d_lo = q.allowed.d_lo;
        d_hi = q.allowed.d_hi;
        m_hi = q.allowed.m_hi;
        power_hi = power_le;
        rest_lt = mod-lt q.b q.allowed.d_lo;
        need_lt = need_lt;
        have_lt = have_lt;
        gain_lt = gain_lt;
      }

  pub narrow_above : Narrow q.a q.d q.m (2 ^ q.k) (q.b % q.d) ((q.b / q.d + q.t + 1) * 2 ^ q.k) q.c (q.m * q.d - q.a * 2 ^ q.k)
  narrow_above = narrow _ _ _ (omega (arith, above_hi)) (omega (arith, q.allowed.c_hi)) (omega (arith, device_period))

  pub narrow_below : Narrow q.a q.d q.m (2 ^ q.k) (q.b % q.d) (q.c + q.t * 2 ^ q.k + 1) (q.b / q.d * 2 ^ q.k) (q.a * 2 ^ q.k - q.m * q.d)
  narrow_below = narrow _ _ _ (omega (arith, below_hi, q.allowed.c_hi)) (omega (arith, first_hi)) (omega (arith, exact_period))
