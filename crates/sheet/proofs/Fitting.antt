-- A note and a list of numbers that a sheet can have, by their lengths.
use Prim.Native.Nat.{ℕ, ◌+◌, ◌*◌, ◌%◌, ◌≤◌}
use mathlib.Core.Path.{◌≡◌, refl, ap}
use mathlib.Core.List.{List}
use mathlib.Core.Logic.{◌⊎◌, inl, inr}
use mathlib.Core.Bool.{Bool, true, false, cond, not, ◌||◌}
use borrow.Author.Tests.{ltb-false, le-ltb, eqb-true, eq-eqb, not-false}
use lib.Dec.{eqb, ltb}
use lib.ListN.{length}
use Rattle.refusal.specs.Outcome.{value, refused}
use Rattle.numbers.proofs.Bools.{or_no}
use Rattle.sheet.specs.Sheet.{sheet_bytes}
use Rattle.sheet.specs.Answers.{unfit, sheet_text}

-- what is known of lengths that fit
pub record Fit (note numbers : ℕ) : Type 0 where
  pub whole_are : numbers % 8 ≡ 0
  pub numbers_le : numbers ≤ 8192
  pub length_le : note + 4 * numbers + 12 ≤ 65536

pub fit : (note numbers : ℕ) → unfit note numbers ≡ false → Fit note numbers
fit note numbers h =
    let t = or_no (not (eqb (numbers % 8) 0) || ltb 8192 numbers) (ltb 65536 (note + 4 * numbers + 12)) h in
    let u = or_no (not (eqb (numbers % 8) 0)) (ltb 8192 numbers) t.0 in
    record {
      whole_are = eqb-true (numbers % 8) 0 (not-false _ u.0);
      numbers_le = ltb-false 8192 numbers u.1;
      length_le = ltb-false 65536 (note + 4 * numbers + 12) t.1;
    }

pub fits_so : (note numbers : ℕ) → Fit note numbers → unfit note numbers ≡ false
fits_so note numbers f =
    let p = ap not (eq-eqb (numbers % 8) 0 f.whole_are) in
    let m = le-ltb 8192 numbers f.numbers_le in
    let l = le-ltb 65536 (note + 4 * numbers + 12) f.length_le in
    rw (p, m, l)

-- the writer's text
module _ (note numbers : List ℕ) where
  pub text_refused : unfit (length note) (length numbers) ≡ true → refused 17 ≡ sheet_text note numbers
  unfolding sheet_text
  text_refused h = rw h

  pub text_is : unfit (length note) (length numbers) ≡ false → value (sheet_bytes note numbers) ≡ sheet_text note numbers
  unfolding sheet_text
  text_is h = rw h

  pub refused_or_written : (sheet_text note numbers ≡ refused 17) ⊎ (sheet_text note numbers ≡ value (sheet_bytes note numbers))
  unfolding sheet_text
  refused_or_written = go (unfit (length note) (length numbers))
    where
      go : (t : Bool) → let o = cond t (refused 17) (value (sheet_bytes note numbers)) in (o ≡ refused 17) ⊎ (o ≡ value (sheet_bytes note numbers))
      go true = inl refl
      go false = inr refl
