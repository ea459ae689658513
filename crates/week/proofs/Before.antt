-- Days before the base: their years are not after its year, so that they are in no week year of the range.
use Prim.Native.Nat.{ℕ, zero, suc, ◌+◌, ◌-◌, ◌≤◌}
use mathlib.Core.Path.{◌≡◌, refl, sym, ap, ◌∙◌, subst}
use mathlib.Core.Bool.{Bool, true, false, cond}
use native.Mathlib.Omega.{arith}
use native.Mathlib.Nat.{add-zero, add-suc}
use native.Mathlib.Numerals.{add-one}
use lib.IntN.{ℤ, pos, nat_abs, ◌+ℤ◌, ◌-ℤ◌, +ℤ_assoc, +ℤ_comm, +ℤ-neg_ℤ_cancel, -ℤ-+ℤ_cancel}
use lib.Signed.{lt_z, non_neg}
use Rattle.numbers.specs.Floor.{floor_remainder}
use Rattle.numbers.specs.Range.{outside, since}
use Rattle.numbers.proofs.Integers.{on_sub, above, below, is_below, outside_no, since_add, not_below, not_below_itself, not_below_trans}
use Rattle.numbers.proofs.Bools.{no_both}
use Rattle.calendar.specs.Range.{first_count}
use Rattle.calendar.specs.declared.Date.{Date}
use Rattle.calendar.specs.Count.{weekday}
use Rattle.week.specs.Days.{previous_day, date_before, date_on}
use Rattle.week.specs.Week.{thursday, thursday_of, week_date_of}
use Rattle.week.specs.Answers.{first_week_year, last_week_year}
use Rattle.week.specs.Closed.{base_year, base_count, from_day}
use Rattle.week.proofs.Years.{first_day_step, first_day_monotone}
use Rattle.week.proofs.Dates.{on_day}

-- one less is not above
one_less : (z : ℤ) → lt_z z (z -ℤ pos 1) ≡ false
one_less z = subst (λ (y : ℤ). lt_z y (z -ℤ pos 1) ≡ false) (-ℤ-+ℤ_cancel z (pos 1)) (not_below (z -ℤ pos 1) 1)

-- a step back never leads to a later year
one_of : (P : Date → Type 0) (s t : Bool) {a b c : Date} → P a → P b → P c → P (cond s a (cond t b c))
one_of P true t p q r = p
one_of P false true p q r = q
one_of P false false p q r = r

abbrev pub NotAfter : (year : ℤ) → Date → Type 0
NotAfter year d = lt_z year d.year ≡ false

previous_year : (d : Date) → NotAfter d.year (previous_day d)
unfolding previous_day
previous_year d =
    one_of (NotAfter d.year) (lt_z (pos 1) d.day) (lt_z (pos 1) d.month) (not_below_itself d.year) (not_below_itself d.year) (one_less d.year)

earlier_year : (n k : ℕ) → NotAfter (date_before n).year (date_before (n + k))
unfolding date_before
earlier_year n zero = subst (λ m. NotAfter (date_before n).year (date_before m)) (sym (add-zero n)) (not_below_itself (date_before n).year)
earlier_year n (suc k) =
    subst (λ m. NotAfter (date_before n).year (date_before m)) (sym (add-suc n k))
    (not_below_trans (date_before n).year (date_before (n + k)).year _ (earlier_year n k) (previous_year (date_before (n + k))))

-- a day before the first, k days before another
pub date_before_lem : (z : ℤ) (n : ℕ) → z +ℤ pos (suc n) ≡ first_count → date_on z ≡ date_before (suc n)
unfolding date_on
date_before_lem z n e =
    let h : lt_z z first_count ≡ true = ap (lt_z z) (sym e) ∙ is_below z n in
    rw h (ap date_before (ap (since z) (sym e) ∙ since_add z (suc n)))

-- the base and the days after it lie in its year
no_more : (y : ℕ) → (1 ≤ y → ⊥) → y ≡ 0
no_more zero none = refl
no_more (suc y) none = absurd (none (omega arith))

base_year_lem : (n : ℕ) → n ≤ 2 → (date_on (base_count +ℤ pos n)).year ≡ base_year
base_year_lem n h =
    let o = on_day n in
    let y = no_more o.year (λ l. omega (arith, o.in_year.low, first_day_step 0, first_day_monotone 1 o.year l)) in
    o.year_is ∙ ap (λ y. base_year +ℤ pos y) y

-- and the days before it in no later one
pub before_base : (z : ℤ) → lt_z z base_count ≡ true → NotAfter base_year (date_on z)
before_base z h =
    let b = below z base_count h in
    let m : suc (from_day + b.0) ≡ suc b.0 + from_day = omega arith in
    let e : z +ℤ pos (suc (from_day + b.0)) ≡ first_count =
    ap (λ n. z +ℤ pos n) m ∙ sym (+ℤ_assoc z (pos (suc b.0)) (pos from_day)) ∙ ap (λ (y : ℤ). y +ℤ pos from_day) (sym b.1) in
    let f : date_on base_count ≡ date_before from_day = date_before_lem base_count (from_day - 1) refl in
    subst (NotAfter base_year) (ap date_before (add-suc from_day b.0) ∙ sym (date_before_lem z (from_day + b.0) e))
    (subst (λ (y : ℤ). NotAfter y (date_before (from_day + suc b.0))) (ap (λ (d : Date). d.year) (sym f) ∙ base_year_lem 0 (omega arith)) (earlier_year from_day (suc b.0)))

-- a year that is not after the base's is no week year
pub not_after_base : {G : Type 0} (year : ℤ) → lt_z base_year year ≡ false → outside first_week_year last_week_year year ≡ false → G
not_after_base year k h =
    no_both (lt_z base_year first_week_year) refl (not_below_trans base_year year first_week_year k (outside_no first_week_year last_week_year year h).0)

-- the Thursday of a week lies at most three days after any of its days
cancel : (z a : ℤ) → (z +ℤ a) -ℤ z ≡ a
cancel z a = ap (λ (y : ℤ). y -ℤ z) (+ℤ_comm z a) ∙ +ℤ-neg_ℤ_cancel a z

from_weekday : (n r : ℕ) → pos n ≡ thursday -ℤ pos (suc r) → n ≤ 3
from_weekday n r =
    on_sub (λ (z : ℤ). pos n ≡ z → n ≤ 3) 4 (suc r)
    (λ l e. no_both (non_neg (pos n)) refl (ap non_neg e))
    (λ l e. let k = ap nat_abs e in omega arith)

to_thursday : (z : ℤ) (n : ℕ) → thursday_of z ≡ z +ℤ pos n → n ≤ 3
unfolding weekday
to_thursday z n e =
    from_weekday n (floor_remainder (z +ℤ pos 3) 7)
    (sym (cancel z (pos n)) ∙ ap (λ (y : ℤ). y -ℤ z) (sym e) ∙ cancel z (thursday -ℤ weekday z)
    ∙ ap (λ k. thursday -ℤ pos k) (add-one (floor_remainder (z +ℤ pos 3) 7)))

-- so no week year of these days is after the base's
pub week_year_before : (z : ℤ) → lt_z z base_count ≡ true → lt_z base_year (week_date_of z).year ≡ false
unfolding week_date_of
week_year_before z h = go (lt_z (thursday_of z) base_count) refl
  where
    go : (t : Bool) → lt_z (thursday_of z) base_count ≡ t → NotAfter base_year (date_on (thursday_of z))
    go true e = before_base (thursday_of z) e
    go false e =
        let b = below z base_count h in
        let a = above base_count (thursday_of z) e in
        let n : thursday_of z ≡ z +ℤ pos (suc b.0 + a.0) =
        a.1 ∙ ap (λ (y : ℤ). y +ℤ pos a.0) b.1 ∙ +ℤ_assoc z (pos (suc b.0)) (pos a.0) in
        let l = to_thursday z (suc b.0 + a.0) n in
        subst (λ (y : ℤ). lt_z base_year y ≡ false) (sym (ap (λ (y : ℤ). (date_on y).year) a.1 ∙ base_year_lem a.0 (omega arith))) (not_below_itself base_year)
