-- A difference is on one of two sides, and each side goes by the gaps of the residues.
use Rattle.std.specs.Prelude.{Option, Some, None, unwrap_or}
use Rattle.std.specs.Option.{option_or}
use mathlib.Core.Path.{◌≡◌, refl, ap}
use mathlib.Core.Logic.{◌⊎◌, inl, inr, ⊎_elim}
use Prim.Native.Nat.{ℕ, ◌+◌, ◌-◌, ◌*◌, ◌/◌, ◌%◌, ◌^◌, ◌≤◌, ◌<◌}
use native.Mathlib.Nat.{mod-lt, mod-add-div, mod-eq_of_lt, mul-le-mul_right}
use native.Mathlib.Decide.{dec_lt}
use native.Mathlib.Omega.{arith}
use lib.Pow.{pow_pos}
use Rattle.constants.specs.declared.trial.Trial.{Trial}
use Rattle.constants.specs.declared.search.Lacking.{Lacking}
use Rattle.constants.specs.declared.search.Lacking.TheVariants.{Line, Stairs}
use Rattle.constants.specs.declared.search.Side.{Side}
use Rattle.constants.specs.Difference.{exact_quotient, device_quotient}
use Rattle.constants.specs.Trial.{exact, device, DifferenceAt}
use Rattle.constants.specs.Residues.{NoneOf, IsFirst}
use Rattle.constants.specs.Sides.{Closed, lack, gain_of, IsSide}
use Rattle.constants.proofs.Arithmetic.{below_quotient, below_quotient_back, above_quotient, above_quotient_back, gained, gained_back, period}
use Rattle.constants.specs.Stairs.{stair}
use Rattle.constants.proofs.Euclid.{stair_start}

-- the device's quotient is above the exact one, where the line of the one no longer lacks anything, or below it, where the staircase of
-- the other does not
unfoldable OnSide : Trial → (l : Lacking) → ℕ → Type 0
OnSide q Line n = exact q n + q.t < device q n
OnSide q Stairs n = device q n + q.t < exact q n

side_differs : (q : Trial) (l : Lacking) (n : ℕ) → OnSide q l n → DifferenceAt q n
unfolding OnSide
side_differs q Line n h = omega arith
side_differs q Stairs n h = omega arith

differs_side : (q : Trial) (n : ℕ) → DifferenceAt q n → OnSide q Line n ⊎ OnSide q Stairs n
unfolding OnSide
differs_side q n h = go (dec_lt (exact q n + q.t) (device q n))
  where
    go : Dec (exact q n + q.t < device q n) → OnSide q Line n ⊎ OnSide q Stairs n
    go (yes p) = inl p
    go (no p) = inr (omega arith)

-- for n = r + d * j the side holds where need r + pull of the other side * j ≤ have r + pull * j
abbrev need : Trial → Lacking → ℕ → ℕ
need q Line r = (exact q r + q.t + 1) * 2 ^ q.k
need q Stairs r = q.m * r + q.c + q.t * 2 ^ q.k + 1

abbrev have : Trial → Lacking → ℕ → ℕ
have q Line r = q.m * r + q.c
have q Stairs r = exact q r * 2 ^ q.k

abbrev pull : Trial → Lacking → ℕ
pull q Line = q.m * q.d
pull q Stairs = q.a * 2 ^ q.k

abbrev other : Lacking → Lacking
other Line = Stairs
other Stairs = Line

lack_is : (q : Trial) (l : Lacking) (r : ℕ) → lack q l r ≡ need q l r - have q l r
lack_is q Line r = refl
lack_is q Stairs r = refl

gain_is : (q : Trial) (l : Lacking) → gain_of q l ≡ pull q l - pull q (other l)
gain_is q Line = refl
gain_is q Stairs = refl

-- the gaps of each side
module _ (q : Trial) (r : ℕ) where
  pub line_lacks : (q.b / q.d + q.t + 1) * 2 ^ q.k + 2 ^ q.k * stair q.d q.a (q.b % q.d) r - (q.c + q.m * r) ≡ lack q Line r
  unfolding exact_quotient
  line_lacks = omega (arith, ap (λ (x : ℕ). 2 ^ q.k * x) (stair_start q.d q.a q.b r q.allowed.d_lo))

  pub stairs_lack : q.c + q.t * 2 ^ q.k + 1 + q.m * r - (q.b / q.d * 2 ^ q.k + 2 ^ q.k * stair q.d q.a (q.b % q.d) r) ≡ lack q Stairs r
  unfolding exact_quotient
  stairs_lack = omega (arith, ap (λ (x : ℕ). 2 ^ q.k * x) (stair_start q.d q.a q.b r q.allowed.d_lo))

module _ (q : Trial) where
  next_period : (r j : ℕ) → exact q (r + q.d * j) ≡ exact q r + q.a * j
  unfolding exact_quotient
  next_period r j = period q.a q.b q.d r j q.allowed.d_lo

  -- the side at r + d * j, as two lines in j
  side_lines : (l : Lacking) (r j : ℕ) → OnSide q l (r + q.d * j) → need q l r + pull q (other l) * j ≤ have q l r + pull q l * j
  unfolding OnSide device_quotient
  side_lines Line r j h =
      let g : (exact q (r + q.d * j) + q.t + 1) * 2 ^ q.k ≤ q.m * (r + q.d * j) + q.c = below_quotient _ _ _ _ (pow_pos q.k) h in
      omega (arith, rw next_period at g)
  side_lines Stairs r j h =
      let g : q.m * (r + q.d * j) + q.c + q.t * 2 ^ q.k + 1 ≤ exact q (r + q.d * j) * 2 ^ q.k = above_quotient _ _ _ _ (pow_pos q.k) h in
      omega (arith, rw next_period at g)

  lines_side : (l : Lacking) (r j : ℕ) → need q l r + pull q (other l) * j ≤ have q l r + pull q l * j → OnSide q l (r + q.d * j)
  unfolding OnSide device_quotient
  lines_side Line r j h = below_quotient_back _ _ _ _ (pow_pos q.k) (rw next_period (omega arith))
  lines_side Stairs r j h = above_quotient_back _ _ _ _ (rw next_period (omega arith))

  split : (n : ℕ) → n % q.d + q.d * (n / q.d) ≡ n
  split n = mod-add-div n q.d

  -- what a side's closed gap says of the constants
  abbrev Gone : Lacking → ℕ → Type 0
  Gone l n = need q l (n % q.d) - have q l (n % q.d) ≤ (pull q l - pull q (other l)) * (n / q.d)

  -- a difference on the side stands where the gap is closed
  side_gone : (l : Lacking) (n : ℕ) → OnSide q l n → Gone l n
  side_gone l n h = gained _ _ _ _ (n / q.d) (side_lines l (n % q.d) (n / q.d) (rw split h))

  -- and where the gap is closed for the first time, one stands: a side that gains nothing is first there in the first period
  gone_side : (l : Lacking) (n : ℕ) → Gone l n → NoneOf (Gone l) n → OnSide q l n
  gone_side l n h first = rw split at (lines_side l (n % q.d) (n / q.d) (lines (dec_lt (pull q l) (pull q (other l)))))
    where
      -- without a gain the residue itself is closed
      residue_gone : pull q l - pull q (other l) ≡ 0 → Gone l (n % q.d)
      residue_gone z =
          let small : n % q.d < q.d = mod-lt n q.allowed.d_lo in
          rw (mod-eq_of_lt small) (omega (arith, h, ap (λ (x : ℕ). x * (n / q.d)) z))

      no_period : pull q l - pull q (other l) ≡ 0 → n / q.d ≡ 0
      no_period z = go (dec_lt (n % q.d) n)
        where
          go : Dec (n % q.d < n) → n / q.d ≡ 0
          go (yes y) = absurd (first (n % q.d) y (residue_gone z))
          go (no f) = omega (arith, split n, mul-le-mul_right (n / q.d) q.allowed.d_lo)

      lines : Dec (pull q l < pull q (other l)) → need q l (n % q.d) + pull q (other l) * (n / q.d) ≤ have q l (n % q.d) + pull q l * (n / q.d)
      lines (no p) = gained_back _ _ _ _ (n / q.d) (omega arith) h
      lines (yes p) =
          let e : n / q.d ≡ 0 = no_period (omega arith) in
          omega (arith, h, ap (λ (x : ℕ). (pull q l - pull q (other l)) * x) e, ap (λ (x : ℕ). pull q (other l) * x) e, ap (λ (x : ℕ). pull q l * x) e)

  module _ {l : Lacking} {s : Side} (i : IsSide q l s) where
    closed_gone : (n : ℕ) → Closed s n → Gone l n
    closed_gone n c = rw (i.gap_is, i.d_is, i.gain_is, lack_is, gain_is) at c

    gone_closed : (n : ℕ) → Gone l n → Closed s n
    gone_closed n g = rw (i.gap_is, i.d_is, i.gain_is, lack_is, gain_is) g

    -- a difference on the side is closed, and the first that is closed is a difference
    closed_on : (n : ℕ) → OnSide q l n → Closed s n
    closed_on n o = gone_closed n (side_gone l n o)

    first_differs : (n : ℕ) → Closed s n → NoneOf (Closed s) n → DifferenceAt q n
    first_differs n c first = side_differs q l n (gone_side l n (closed_gone n c) (λ k lt g. first k lt (gone_closed k g)))

  -- the least difference is the least on either side
  module _ {above below : Side} (a : IsSide q Line above) (b : IsSide q Stairs below) (end : ℕ) where
    -- no difference where neither side is closed
    neither : (l : ℕ) → NoneOf (Closed above) l → NoneOf (Closed below) l → NoneOf (DifferenceAt q) l
    neither l no_above no_below n lt v = ⊎_elim (λ o. no_above n lt (closed_on a n o)) (λ o. no_below n lt (closed_on b n o)) (differs_side q n v)

    pub either_side : (up down : Option ℕ) → IsFirst (Closed above) end up → IsFirst (Closed below) (unwrap_or up end) down
        → IsFirst (DifferenceAt q) end (option_or down up)
    either_side None None f g = neither end f g
    either_side (Some n) None f g =
        record { below = f.below; here = first_differs a n f.here f.before; before = neither n f.before g }
    either_side None (Some m) f g =
        record { below = g.below; here = first_differs b m g.here g.before; before = neither m (λ i lt. f i (omega (arith, g.below))) g.before }
    either_side (Some n) (Some m) f g =
        record {
          below = omega (arith, f.below, g.below);
          here = first_differs b m g.here g.before;
          before = neither m (λ i lt. f.before i (omega (arith, g.below))) g.before;
        }
