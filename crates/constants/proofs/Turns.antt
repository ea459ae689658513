-- What `line_gap` and `stairs_gap` lean on: each of their answers, and the sizes of their numbers.
use mathlib.Core.Path.{◌≡◌, refl, ap, ◌∙◌}
use Prim.Native.Nat.{ℕ, zero, suc, ◌+◌, ◌-◌, ◌*◌, ◌/◌, ◌%◌, ◌^◌, ◌≤◌, ◌<◌, min}
use native.Mathlib.Nat.{mul-le-mul_left, mul-le-mul_right, mul-div-le, div-eq_of_lt, mod-lt, mod-le}
use native.Mathlib.Decide.{dec_lt}
use native.Mathlib.Omega.{arith}
use Rattle.constants.specs.Stairs.{stair, line_gap, stairs_gap, LeastValue, LineSizes, StairsSizes}
use Rattle.constants.proofs.Euclid.{stair_slope, stair_zero, back_start, backwards, last_on, still_on, before}

-- the staircase's gaps are the line's from the last x backwards
module _ {end width rise start slope height lead : ℕ} (sizes : StairsSizes end width rise start slope height lead) where
  abbrev last : ℕ
  last = end - 1

  abbrev start' : ℕ
  start' = back_start width rise start last sizes.wide

  abbrev lead' : ℕ
  lead' = lead + slope * last - height * stair width rise start last

  -- at x and y, where y is as far from the last as x from 0
  module _ (x y : ℕ) (e : x + y ≡ last) where
    both_lines : slope * x + slope * y ≡ slope * last
    both_lines = omega (arith, ap (λ (z : ℕ). slope * z) e)

    both_stairs : height * stair width rise start x + height * stair width rise start' y ≡ height * stair width rise start last
    both_stairs = omega (arith, ap (λ (z : ℕ). height * z) (backwards width rise start last sizes.wide x y e))

  pub stairs_turned : (r : ℕ) → LeastValue (line_gap width rise start' slope height lead') end r → LeastValue (stairs_gap width rise start slope height lead) end r
  stairs_turned r v =
      let y = v.taken.0 in
      let lt = v.taken.1 in
      let e : end - 1 - y + y ≡ end - 1 = omega arith in
      record {
        taken = (end - 1 - y, omega (arith, sizes.some), omega (arith, v.taken.2, both_lines (end - 1 - y) y e, both_stairs (end - 1 - y) y e));
        least = λ x lt.
            let e : x + (end - 1 - x) ≡ end - 1 = omega arith in
            omega (arith, v.least (end - 1 - x) (omega (arith, sizes.some)), v.least 0 sizes.some, first_zero, both_lines x (end - 1 - x) e, both_stairs x (end - 1 - x) e);
      }
    where
      first_zero : height * stair width rise start' 0 ≡ 0
      first_zero = omega (arith, ap (λ (z : ℕ). height * z) (stair_zero width rise start' (omega (arith, sizes.wide))))

  pub turned_sizes : LineSizes end width rise start' slope height lead'
  turned_sizes =
      record {
        some = sizes.some;
        start_lt = omega (arith, sizes.wide);
        line_hi = omega (arith, sizes.line_hi);
        stairs_hi = omega (arith, sizes.line_hi, sizes.stairs_hi, both_stairs 0 last (omega arith));
        width_hi = sizes.width_hi;
      }

-- the line's gaps
module _ {end width rise start slope height lead : ℕ} (sizes : LineSizes end width rise start slope height lead) where
  first_gap : line_gap width rise start slope height lead 0 ≡ lead
  first_gap = omega (arith, ap (λ (z : ℕ). height * z) (stair_zero width rise start sizes.start_lt))

  wide : 0 < width
  wide = omega (arith, sizes.start_lt)

  -- what fits
  pub whole_hi : (end ≡ 1 → ⊥) → height * (rise / width) ≤ 2 ^ 61
  whole_hi ne =
      let more : 1 ≤ end - 1 = omega (arith, sizes.some) in
      omega (arith, sizes.stairs_hi, ap (λ (z : ℕ). height * z) (stair_slope width rise start (end - 1) wide), mul-le-mul_left (height * (rise / width)) more)

  pub steps_hi : lead + height * stair width (rise % width) start (end - 1) ≤ 2 ^ 61
  steps_hi = omega (arith, sizes.stairs_hi, ap (λ (z : ℕ). height * z) (stair_slope width rise start (end - 1) wide))

  rest_hi : (slope - height * (rise / width)) * (end - 1) ≤ 2 ^ 61
  rest_hi =
      let le : slope - height * (rise / width) ≤ slope = omega arith in
      omega (arith, sizes.line_hi, mul-le-mul_right (end - 1) le)

  -- where the lead is the least
  pub line_one : end ≡ 1 → LeastValue (line_gap width rise start slope height lead) end lead
  line_one e =
      record {
        taken = (0, sizes.some, omega (arith, first_gap));
        least = λ x lt. let z : x ≡ 0 = omega arith in omega (arith, ap (line_gap width rise start slope height lead) z, first_gap);
      }

  pub line_never : slope ≤ height * (rise / width) → LeastValue (line_gap width rise start slope height lead) end lead
  line_never le =
      record {
        taken = (0, sizes.some, omega (arith, first_gap));
        least = λ x lt. omega (arith, ap (λ (z : ℕ). height * z) (stair_slope width rise start x wide), mul-le-mul_right x le);
      }

  -- the line rises more than the whole part of the staircase's slope
  module _ (lt : height * (rise / width) < slope) where
    abbrev part : ℕ
    part = rise % width

    abbrev rest : ℕ
    rest = slope - height * (rise / width)

    abbrev steps : ℕ
    steps = stair width part start (end - 1)

    abbrev here : ℕ
    here = lead + height * steps - rest * (end - 1)

    flat : (x : ℕ) → line_gap width rise start slope height lead x ≡ line_gap width part start rest height lead x
    flat x =
        let e : slope ≡ rest + height * (rise / width) = omega arith in
        omega (arith, ap (λ (z : ℕ). height * z) (stair_slope width rise start x wide), ap (λ (z : ℕ). z * x) e)

    at_last : (x : ℕ) × (x < end) × (line_gap width rise start slope height lead x ≤ here)
    at_last = (end - 1, omega (arith, sizes.some), omega (arith, flat (end - 1)))

    -- on the last step the last x has the least gap
    on_last_step : (x : ℕ) → x < end → steps ≤ stair width part start x → here ≤ line_gap width rise start slope height lead x
    on_last_step x lt le =
        let k : x ≤ end - 1 = omega arith in
        omega (arith, flat x, mul-le-mul_left height le, mul-le-mul_left rest k)

    pub line_no_step : steps ≡ 0 → LeastValue (line_gap width rise start slope height lead) end here
    line_no_step z = record { taken = at_last; least = λ x lt. on_last_step x lt (omega arith) }

    pub line_reached : here ≡ 0 → LeastValue (line_gap width rise start slope height lead) end here
    line_reached z = record { taken = at_last; least = λ x lt. omega arith }

    -- the staircase has a step
    module _ (ne : steps ≡ 0 → ⊥) where
      abbrev back : ℕ
      back = width - start - 1

      part_pos : 0 < part
      part_pos = go part refl
        where
          no_rise : (start x : ℕ) → 0 * x + start ≡ start
          no_rise start x = omega arith

          go : (p : ℕ) → part ≡ p → 0 < part
          go zero e =
              absurd
              (ne
              (ap (λ (z : ℕ). (z * (end - 1) + start) / width) e ∙ ap (λ (z : ℕ). z / width) (no_rise start (end - 1)) ∙ div-eq_of_lt sizes.start_lt))
          go (suc p) e = omega arith

      -- on another step the last x of the step has the least gap
      pub line_turned : (r : ℕ) → LeastValue (stairs_gap part width back height rest lead) steps r → LeastValue (line_gap width rise start slope height lead) end (min here r)
      line_turned r v = record { taken = taken (dec_lt here r); least = λ x lt. least x lt (dec_lt (stair width part start x) steps) }
        where
          taken : Dec (here < r) → (x : ℕ) × (x < end) × (line_gap width rise start slope height lead x ≤ min here r)
          taken (yes h) = (at_last.0, at_last.1, omega (arith, at_last.2))
          taken (no h) =
              let y = v.taken.0 in
              let x = stair part width back y in
              let b : x < end - 1 = before width part start sizes.start_lt part_pos (end - 1) y v.taken.1 in
              (x, omega arith, omega (arith, v.taken.2, flat x, mul-le-mul_left height (still_on width part start sizes.start_lt part_pos y)))

          least : (x : ℕ) → x < end → Dec (stair width part start x < steps) → min here r ≤ line_gap width rise start slope height lead x
          least x lt (yes h) =
              omega (arith, v.least (stair width part start x) h, flat x, mul-le-mul_left rest (last_on width part start sizes.start_lt part_pos x))
          least x lt (no h) = omega (arith, on_last_step x lt (omega arith))

      pub next_sizes : StairsSizes steps part width back height rest lead
      next_sizes =
          let fits : width * steps ≤ part * (end - 1) + start = mul-div-le (part * (end - 1) + start) width in
          let less : part * (end - 1) ≤ rise * (end - 1) = mul-le-mul_right (end - 1) (mod-le rise width) in
          let e : steps - 1 + 1 ≡ steps = omega arith in
          let b : stair part width back (steps - 1) < end - 1 = before width part start sizes.start_lt part_pos (end - 1) (steps - 1) (omega arith) in
          let p : part < width = mod-lt rise wide in
          record {
            some = omega arith;
            wide = part_pos;
            line_hi = omega (arith, steps_hi, ap (λ (z : ℕ). height * z) e);
            stairs_hi = omega (arith, rest_hi, mul-le-mul_left rest b);
            width_hi = omega (arith, sizes.width_hi, sizes.start_lt, ap (λ (z : ℕ). width * z) e);
            reach_hi = omega (arith, sizes.width_hi, sizes.start_lt, ap (λ (z : ℕ). width * z) e);
          }
