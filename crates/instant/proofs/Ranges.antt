-- Instants of the range have days of the calendar's range, and the other way round.
use Prim.Native.Nat.{ℕ, ◌+◌, ◌-◌, ◌*◌, ◌<◌}
use mathlib.Core.Path.{◌≡◌, refl, sym, ap, ap₂, ◌∙◌, subst}
use mathlib.Core.Bool.{false, cond}
use native.Mathlib.Omega.{arith}
use lib.Dec.{lit<}
use lib.IntN.{ℤ, pos, ◌+ℤ◌, ◌*ℤ◌, +ℤ_assoc, +ℤ_idr}
use lib.Signed.{lt_z}
use mir.Syntax.{w32, w64}
use mir.Val.{SFits}
use Rattle.refusal.specs.Outcome.{value, refused}
use Rattle.refusal.proofs.Outcomes.{clash, same_value}
use Rattle.numbers.specs.Range.{outside, since}
use Rattle.numbers.proofs.Between.{fits_between}
use Rattle.numbers.proofs.Floor.{remainder_below}
use Rattle.numbers.proofs.Integers.{outside_no, outside_as, add_since, since_le, inside}
use Rattle.numbers.proofs.Quotients.{quotient_below, mul_add}
use Rattle.calendar.specs.declared.Date.{Date}
use Rattle.calendar.specs.Range.{first_count, last_count}
use Rattle.calendar.specs.Count.{date_of_count}
use Rattle.calendar.specs.Answers.{civil_answer}
use Rattle.instant.specs.Units.{per_day, first_instant, last_instant}
use Rattle.instant.specs.Instant.{day_of, time_of, fields_at, fields_of}
use Rattle.instant.specs.declared.Fields.{Fields}
use Rattle.instant.specs.Answers.{bad_instant, split_answer}

-- the instants of the days first..last
pub instants_of_days :
    (first last instant : ℤ) → outside first last (day_of instant) ≡ outside (first *ℤ pos per_day) (last *ℤ pos per_day +ℤ pos (per_day - 1)) instant
unfolding day_of
instants_of_days first last instant =
    outside_as (day_of instant) first last instant (first *ℤ pos per_day) (last *ℤ pos per_day +ℤ pos (per_day - 1)) (quotient_below instant first per_day (lit< tt))
    (quotient_below instant (last +ℤ pos 1) per_day (lit< tt)
    ∙ ap (lt_z instant) (mul_add last 1 per_day ∙ sym (+ℤ_assoc (last *ℤ pos per_day) (pos (per_day - 1)) (pos 1))))

pub day_inside : (instant : ℤ) → bad_instant instant ≡ false → outside first_count last_count (day_of instant) ≡ false
day_inside instant h = instants_of_days first_count last_count instant ∙ h

pub day_fits : (instant : ℤ) → bad_instant instant ≡ false → SFits w32 (day_of instant)
day_fits instant h =
    fits_between w32 first_count last_count (day_of instant) (record { sfits = lit< tt }) (record { sfits = lit< tt }) (day_inside instant h)

pub time_below : (instant : ℤ) → time_of instant < per_day
unfolding time_of
time_below instant = remainder_below instant per_day (lit< tt)

-- the date of a count in the range
pub dated : (z : ℤ) → outside first_count last_count z ≡ false → civil_answer z ≡ value (date_of_count z)
unfolding civil_answer
dated z h = ap (λ t. cond t (refused 4) (value (date_of_count z))) h

-- the day d of an instant in the range is not refused
pub split_refuses :
    (instant d : ℤ) (k : ℕ) → bad_instant instant ≡ false → d ≡ day_of instant → refused k ≡ civil_answer d → refused k ≡ split_answer instant
split_refuses instant d k h e r = clash (cc (r ∙ dated d (rw e (day_inside instant h))))

-- and its date and its time of day make the fields
pub split_accepts :
    (instant d : ℤ) (date : Date) (t : ℕ) (f : Fields) → bad_instant instant ≡ false → d ≡ day_of instant → value date ≡ civil_answer d →
    t ≡ time_of instant → f ≡ fields_at date t → value f ≡ split_answer instant
unfolding split_answer fields_of
split_accepts instant d date t f h e a u g =
    let same : value date ≡ value (date_of_count (day_of instant)) = a ∙ dated d (rw e (day_inside instant h))
    ∙ ap (λ z. value (date_of_count z)) e in
    rw h (ap value (g ∙ ap₂ fields_at (same_value same) u))

pub ruleset splits = (split_refuses, split_accepts)

module _ (z : ℤ) (h : outside first_count last_count z ≡ false) where
  -- a count in the range and a time of day
  pub instant_inside : (t : ℕ) → t < per_day → bad_instant (z *ℤ pos per_day +ℤ pos t) ≡ false
  instant_inside t l =
      let o = outside_no first_count last_count z h in
      let n = since first_count z in
      let k = since_le first_count last_count refl z o.0 o.1 in
      ap bad_instant
      (ap (λ (y : ℤ). y *ℤ pos per_day +ℤ pos t) (sym (add_since first_count z o.0))
      ∙ ap (λ (y : ℤ). y +ℤ pos t) (mul_add first_count n per_day) ∙ +ℤ_assoc first_instant (pos (n * per_day)) (pos t))
      ∙ inside first_instant last_instant refl (n * per_day + t) (omega arith)

  pub instant_fits : (t : ℕ) → t < per_day → SFits w64 (z *ℤ pos per_day +ℤ pos t)
  instant_fits t l =
      fits_between w64 first_instant last_instant (z *ℤ pos per_day +ℤ pos t) (record { sfits = lit< tt }) (record { sfits = lit< tt })
      (instant_inside t l)

  pub midnight_fits : SFits w64 (z *ℤ pos per_day)
  midnight_fits = subst (SFits w64) (+ℤ_idr (z *ℤ pos per_day)) (instant_fits 0 (lit< tt))
