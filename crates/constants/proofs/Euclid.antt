-- A line against a staircase below an end: their least gap, by the steps of Euclid's algorithm on the staircase's slope.
use mathlib.Core.Path.{◌≡◌, ap, ◌∙◌}
use Prim.Native.Nat.{ℕ, suc, ◌+◌, ◌-◌, ◌*◌, ◌/◌, ◌%◌, ◌≤◌, ◌<◌}
use native.Mathlib.Nat.{div-add-mod, mul-add-div, mul-le-mul_left, le-div_iff_mul-le, div-lt_iff_lt-mul, mul-div-le, lt-mul-div-succ, lt_of_mul-lt-mul_left, div-eq_of_lt, le_refl, mod-lt}
use native.Mathlib.Omega.{arith, by_contra}
use Rattle.constants.specs.Stairs.{stair}

-- the slope's whole part comes out, and so does the start's
pub stair_slope : (width rise start x : ℕ) → 0 < width → stair width rise start x ≡ rise / width * x + stair width (rise % width) start x
stair_slope width rise start x wide = ap (λ (z : ℕ). z / width) shape ∙ mul-add-div wide (rise / width * x) (rise % width * x + start)
  where
    shape : rise * x + start ≡ width * (rise / width * x) + (rise % width * x + start)
    shape = omega (arith, ap (λ (z : ℕ). z * x) (div-add-mod rise width))

pub stair_start : (width rise start x : ℕ) → 0 < width → stair width rise start x ≡ start / width + stair width rise (start % width) x
stair_start width rise start x wide = ap (λ (z : ℕ). z / width) shape ∙ mul-add-div wide (start / width) (rise * x + start % width)
  where
    shape : rise * x + start ≡ width * (start / width) + (rise * x + start % width)
    shape = omega (arith, div-add-mod start width)

pub stair_zero : (width rise start : ℕ) → start < width → stair width rise start 0 ≡ 0
stair_zero width rise start lt = ap (λ (z : ℕ). z / width) (at_zero rise start) ∙ div-eq_of_lt lt
  where
    at_zero : (rise start : ℕ) → rise * 0 + start ≡ start
    at_zero rise start = omega arith

pub stair_mono : (width rise start x y : ℕ) → 0 < width → x ≤ y → stair width rise start x ≤ stair width rise start y
stair_mono width rise start x y wide le =
    (le-div_iff_mul-le wide).1 (omega (arith, mul-div-le (rise * x + start) width, mul-le-mul_left rise le))

-- backwards from `last` the staircase comes down as another one goes up
module _ (width rise start last : ℕ) (wide : 0 < width) where
  abbrev pub back_start : ℕ
  back_start = width - 1 - (rise * last + start) % width

  pub backwards : (x y : ℕ) → x + y ≡ last → stair width rise start x + stair width rise back_start y ≡ stair width rise start last
  backwards x y e =
      let there = rise * last + start in
      let sum : rise * x + rise * y ≡ rise * last = omega (arith, ap (λ (z : ℕ). rise * z) e) in
      let rem : there % width < width = mod-lt there wide in
      let up : stair width rise start x + stair width rise back_start y < stair width rise start last + 1 =
      lt_of_mul-lt-mul_left width (omega (arith, div-add-mod there width, mul-div-le (rise * x + start) width, mul-div-le (rise * y + back_start) width)) in
      let down : stair width rise start last + 1 < stair width rise start x + stair width rise back_start y + 2 =
      lt_of_mul-lt-mul_left width (omega (arith, div-add-mod there width, lt-mul-div-succ (rise * x + start) wide, lt-mul-div-succ (rise * y + back_start) wide)) in
      omega arith

-- the last x on the step y is the staircase turned over: (width * y + (width - start - 1)) / rise
module _ (width rise start : ℕ) (start_lt : start < width) (rise-pos : 0 < rise) where
  wide : 0 < width
  wide = omega arith

  pub last_on : (x : ℕ) → x ≤ stair rise width (width - start - 1) (stair width rise start x)
  last_on x = (le-div_iff_mul-le rise-pos).1 (omega (arith, (div-lt_iff_lt-mul wide).0 (le_refl (suc (stair width rise start x)))))

  pub still_on : (y : ℕ) → stair width rise start (stair rise width (width - start - 1) y) ≤ y
  still_on y =
      let h : stair width rise start (stair rise width (width - start - 1) y) < suc y =
      (div-lt_iff_lt-mul wide).1 (omega (arith, mul-div-le (width * y + (width - start - 1)) rise)) in
      omega arith

  pub before : (last y : ℕ) → y < stair width rise start last → stair rise width (width - start - 1) y < last
  before last y lt =
      by_contra _ _ (λ h. let le : last ≤ stair rise width (width - start - 1) y = omega arith in
      omega (arith, still_on y, stair_mono width rise start last (stair rise width (width - start - 1) y) wide le))
