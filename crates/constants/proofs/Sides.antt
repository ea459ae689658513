-- A side's gaps are those of a line against a staircase.
use mathlib.Core.Path.{◌≡◌, refl, ap}
use Prim.Native.Nat.{ℕ, ◌+◌, ◌-◌, ◌*◌, ◌<◌}
use native.Mathlib.Omega.{arith}
use Rattle.constants.specs.declared.search.Lacking.{Lacking}
use Rattle.constants.specs.declared.search.Lacking.TheVariants.{Line, Stairs}
use Rattle.constants.specs.declared.search.Side.{Side}
use Rattle.constants.specs.Stairs.{line_gap, stairs_gap, LeastValue}
use Rattle.constants.specs.Sides.{climb, run, gap}
use Rattle.constants.proofs.Euclid.{stair_zero}

gap_line : (s : Side) → s.lacking ≡ Line → (x : ℕ) → gap s x ≡ s.need + climb s x - (s.have + run s x)
unfolding gap
gap_line s h x = rw h

gap_stairs : (s : Side) → s.lacking ≡ Stairs → (x : ℕ) → gap s x ≡ s.need + run s x - (s.have + climb s x)
unfolding gap
gap_stairs s h x = rw h

module _ (s : Side) where
  pub first_gap : gap s 0 ≡ s.need - s.have
  first_gap = go s.lacking refl
    where
      flat : climb s 0 ≡ 0
      flat = omega (arith, ap (λ (z : ℕ). s.power * z) (stair_zero s.d s.a s.rest s.narrow.rest_lt))

      go : (l : Lacking) → s.lacking ≡ l → gap s 0 ≡ s.need - s.have
      go Line h = omega (arith, gap_line s h 0, flat)
      go Stairs h = omega (arith, gap_stairs s h 0, flat)

  -- the gaps of the residues below `end` above `bound`, where the first one's is the lead
  module _ (end bound lead : ℕ) (e : lead ≡ s.need - (s.have + bound)) where
    pub first_up : 0 < end → lead ≡ 0 → LeastValue (λ (x : ℕ). gap s x - bound) end 0
    first_up some z = record { taken = (0, some, omega (arith, first_gap)); least = λ x lt. omega arith }

    module _ (ne : lead ≡ 0 → ⊥) where
      pub line_gaps : s.lacking ≡ Line → (r : ℕ) → LeastValue (line_gap s.d s.a s.rest s.m s.power lead) end r → LeastValue (λ (x : ℕ). gap s x - bound) end r
      line_gaps h r l =
          record {
            taken = (l.taken.0, l.taken.1, omega (arith, l.taken.2, gap_line s h l.taken.0));
            least = λ x lt. omega (arith, l.least x lt, gap_line s h x);
          }

      pub stairs_gaps : s.lacking ≡ Stairs → (r : ℕ) → LeastValue (stairs_gap s.d s.a s.rest s.m s.power lead) end r → LeastValue (λ (x : ℕ). gap s x - bound) end r
      stairs_gaps h r l =
          record {
            taken = (l.taken.0, l.taken.1, omega (arith, l.taken.2, gap_stairs s h l.taken.0));
            least = λ x lt. omega (arith, l.least x lt, gap_stairs s h x);
          }
