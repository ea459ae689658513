-- What the search makes of the gaps of the residues on one side.
use Rattle.std.specs.Prelude.{Some, None}
use mathlib.Core.Path.{◌≡◌, refl, ap, subst}
use Prim.Native.Nat.{ℕ, zero, suc, ◌+◌, ◌-◌, ◌*◌, ◌/◌, ◌%◌, ◌^◌, ◌≤◌, ◌<◌, min}
use native.Mathlib.Nat.{mod-lt, mod-le, mod-add-div, mod-eq_of_lt, div-eq_of_lt, add-mul-mod_self_left, add-mul-div_left, zero-add, add_comm, mul-le-mul_left}
use native.Mathlib.Decide.{dec_lt}
use native.Mathlib.Omega.{arith, by_contra}
use Rattle.constants.specs.declared.search.Side.{Side}
use Rattle.constants.specs.Stairs.{LeastValue}
use Rattle.constants.specs.Residues.{FirstOf, IsFirst, IsFewest}
use Rattle.constants.specs.Sides.{gap, Closed}
use Rattle.constants.proofs.Sides.{first_gap}

-- the least n whose residue's gap is closed, by the fewest periods that close the nearest gap
module _ (s : Side) (end first nearest : ℕ) (some : 0 < end) (first_is : first ≡ min s.d end) (least : LeastValue (λ (x : ℕ). gap s x - 0) first nearest) where
  split : (n : ℕ) → n % s.d + s.d * (n / s.d) ≡ n
  split n = mod-add-div n s.d

  -- a gap is closed where the nearest one is
  nearest_closed : (n : ℕ) → n < end → Closed s n → nearest ≤ s.gain * (n / s.d)
  nearest_closed n lt c =
      let small : n % s.d < first = omega (arith, mod-lt n s.narrow.d_lo, mod-le n s.d) in
      omega (arith, least.least (n % s.d) small)

  module _ (j : ℕ) (fewest : IsFewest nearest s.gain (Some j)) where
    -- n has j periods before it, if its residue's gap is closed
    periods_before : (n : ℕ) → n < end → Closed s n → j ≤ n / s.d
    periods_before n lt c = by_contra _ _ (λ h. fewest.1 (n / s.d) h (nearest_closed n lt c))

    -- one period less would not do
    pub closing_lt : s.gain * j < 2 ^ 60
    closing_lt = go j refl
      where
        nearest_lt : nearest < 2 ^ 59
        nearest_lt = omega (arith, least.least 0 (omega (arith, s.narrow.d_lo)), first_gap s, s.narrow.need_lt)

        go : (i : ℕ) → j ≡ i → s.gain * j < 2 ^ 60
        go zero e = omega (arith, ap (λ (i : ℕ). s.gain * i) e)
        go (suc i) e =
            let l : s.gain * i < nearest = by_contra _ _ (λ h. fewest.1 i (omega arith) (omega arith)) in
            let e' : j ≡ i + 1 = omega arith in
            omega (arith, nearest_lt, s.narrow.gain_lt, ap (λ (i : ℕ). s.gain * i) e')

    -- and r is the least residue whose gap j periods close
    module _ (r : ℕ) (residue : FirstOf (λ (x : ℕ). gap s x ≤ s.gain * j) first r) where
      none_before : (n : ℕ) → n < end → n < s.d * j + r → Closed s n → ⊥
      none_before n le lt c = go (dec_lt j (n / s.d))
        where
          from : j ≤ n / s.d
          from = periods_before n le c

          go : Dec (j < n / s.d) → ⊥
          go (yes y) = omega (arith, split n, mul-le-mul_left s.d y, residue.below)
          go (no f) =
              let e : n / s.d ≡ j = omega (arith, from) in
              residue.before (n % s.d) (omega (arith, split n, ap (λ (i : ℕ). s.d * i) e)) (subst (λ (i : ℕ). gap s (n % s.d) ≤ s.gain * i) e c)

      closed_here : Closed s (s.d * j + r)
      closed_here =
          let small : r < s.d = omega (arith, residue.below) in
          rw (add_comm (s.d * j) r, add-mul-mod_self_left r s.d j, mod-eq_of_lt small, add-mul-div_left r j s.narrow.d_lo, div-eq_of_lt small, zero-add)
          residue.here

      pub first_closed : s.d * j + r < end → IsFirst (Closed s) end (Some (s.d * j + r))
      first_closed lt = record { below = lt; here = closed_here; before = λ n l. none_before n (omega arith) l }

      pub none_below : end ≤ s.d * j + r → IsFirst (Closed s) end None
      none_below le n lt = none_before n lt (omega arith)
