-- Constants that were tested, as natural numbers.
use mathlib.Core.Path.{◌≡◌, refl}
use mathlib.Core.Bool.{Bool, true, false, ◌||◌}
use lib.IntN.{ℤ, pos}
use Rattle.numbers.specs.Range.{outside}
use Rattle.numbers.proofs.Between.{natural_within}
use Rattle.numbers.proofs.Bools.{or_no}
use Rattle.constants.specs.Limits.{first_a, last_a, last_b, first_d, last_d, last_m, last_c, last_k, last_t, outside_limits, AllWithin}

or_true : (x : Bool) → (x || true) ≡ true
or_true true = refl
or_true false = refl

pub allowed_within : (a b d m c k t : ℤ) → outside_limits a b d m c k t ≡ false → AllWithin a b d m c k t
unfolding outside_limits
allowed_within a b d m c k t h =
    let to-k = or_no _ _ h in
    let to-c = or_no _ _ to-k.0 in
    let to-m = or_no _ _ to-c.0 in
    let to-d = or_no _ _ to-m.0 in
    let to-b = or_no _ _ to-d.0 in
    let to-a = or_no _ _ to-b.0 in
    record {
      a_in = natural_within first_a (pos last_a) a to-a.0;
      b_in = natural_within 0 (pos last_b) b to-a.1;
      d_in = natural_within first_d (pos last_d) d to-b.1;
      m_in = natural_within 0 (pos last_m) m to-d.1;
      c_in = natural_within 0 (pos last_c) c to-m.1;
      k_in = natural_within 0 (pos last_k) k to-c.1;
      t_in = natural_within 0 (pos last_t) t to-k.1;
    }

-- one of the constants lies outside its limits, or none does
module _ (a b d m c k t : ℤ) where
  pub a_outside : outside (pos first_a) (pos last_a) a ≡ true → outside_limits a b d m c k t ≡ true
  unfolding outside_limits
  a_outside h = rw h

  pub b_outside : outside (pos 0) (pos last_b) b ≡ true → outside_limits a b d m c k t ≡ true
  unfolding outside_limits
  b_outside h = rw (h, or_true)

  pub d_outside : outside (pos first_d) (pos last_d) d ≡ true → outside_limits a b d m c k t ≡ true
  unfolding outside_limits
  d_outside h = rw (h, or_true)

  pub m_outside : outside (pos 0) (pos last_m) m ≡ true → outside_limits a b d m c k t ≡ true
  unfolding outside_limits
  m_outside h = rw (h, or_true)

  pub c_outside : outside (pos 0) (pos last_c) c ≡ true → outside_limits a b d m c k t ≡ true
  unfolding outside_limits
  c_outside h = rw (h, or_true)

  pub k_outside : outside (pos 0) (pos last_k) k ≡ true → outside_limits a b d m c k t ≡ true
  unfolding outside_limits
  k_outside h = rw (h, or_true)

  pub t_outside : outside (pos 0) (pos last_t) t ≡ true → outside_limits a b d m c k t ≡ true
  unfolding outside_limits
  t_outside h = rw (h, or_true)

  pub none_outside :
      outside (pos first_a) (pos last_a) a ≡ false → outside (pos 0) (pos last_b) b ≡ false → outside (pos first_d) (pos last_d) d ≡ false →
      outside (pos 0) (pos last_m) m ≡ false → outside (pos 0) (pos last_c) c ≡ false → outside (pos 0) (pos last_k) k ≡ false →
      outside (pos 0) (pos last_t) t ≡ false → outside_limits a b d m c k t ≡ false
  unfolding outside_limits
  none_outside a_in b_in d_in m_in c_in k_in t_in = rw (a_in, b_in, d_in, m_in, c_in, k_in, t_in)
