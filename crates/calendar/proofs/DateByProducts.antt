-- What the products make of a day: its year and its day of the year, as the divisions do.
use Prim.Native.Nat.{ℕ, ◌+◌, ◌-◌, ◌*◌, ◌/◌, ◌%◌, ◌≤◌}
use mathlib.Core.Path.{◌≡◌, refl, sym, ap, ◌∙◌}
use mathlib.Core.Bool.{Bool, true, false}
use native.Mathlib.Omega.{arith}
use lib.Dec.{leb}
use borrow.Author.Tests.{leb-true, leb-false}
use lib.IntN.{◌+ℤ◌}
use mir.Syntax.{w64}
use mir.Val.{to_z, bool_byte}
use Rattle.numbers.proofs.Machine.{read}
use Rattle.day_table.specs.Year.{month_at, day_at, month_and_day}
use Rattle.day_table.specs.Closed.{new_year}
use Rattle.day_table.proofs.Rule.{in_year, small}
use Rattle.calendar.specs.Gregorian.{date_of, date_after}
use Rattle.calendar.specs.Closed.{base_year, last_day}
use Rattle.calendar.proofs.Conversion.{regular, march_year, march_day, day_of_lem, day_small, date_made}

-- the year from January is a year further on in January and February
january : (w : ℕ) → (4 * (w + 1) + 236) / 1461 ≡ (4 * w + 3) / 1461 + new_year ((4 * w + 3) % 1461 / 4)
january w = go (leb 306 ((4 * w + 3) % 1461 / 4)) refl
  where
    go : (t : Bool) → leb 306 ((4 * w + 3) % 1461 / 4) ≡ t → (4 * (w + 1) + 236) / 1461 ≡ (4 * w + 3) / 1461 + bool_byte t
    go true e = let l = leb-true 306 ((4 * w + 3) % 1461 / 4) e in omega arith
    go false e = let l = leb-false 306 ((4 * w + 3) % 1461 / 4) e in omega arith

-- a month and a day from the number of both
pub parts : (k : ℕ) → (month_and_day k / 256 ≡ month_at k) × (month_and_day k % 256 ≡ day_at k)
parts k = (omega (arith, (small k).1), omega (arith, (small k).1))

-- the regular day d of the day n after the first, and the year y and the day of the year k of it
module _ (n : ℕ) (h : n ≤ last_day) {d y : ℕ} (e : d ≡ regular n + 1) (f : y ≡ (4 * d + 236) / 1461) where
  year_is : y ≡ march_year n + new_year (march_day n)
  year_is = f ∙ ap (λ d. (4 * d + 236) / 1461) e ∙ january (regular n) ∙ ap (λ k. march_year n + new_year k) (sym (day_of_lem (regular n)))

  module _ {k : ℕ} (g : k ≡ (4 * d - 1) % 1461 / 4) where
    day_is : k ≡ march_day n
    day_is = g ∙ ap (λ x. x % 1461 / 4) (omega arith) ∙ sym (day_of_lem (regular n))

    pub date_is : {m r : ℕ} → m ≡ month_at k → r ≡ day_at k → date_of (read (to_z w64 y +ℤ base_year)) (to_z w64 m) (to_z w64 r) ≡ date_after n
    date_is p q =
        let l = day_small n h in
        let i = in_year (march_day n) (omega arith) in
        date_made n h year_is (p ∙ ap month_at day_is ∙ i.0) (q ∙ ap day_at day_is ∙ i.1)
