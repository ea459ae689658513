-- The time of day and its fields, in natural numbers.
use Prim.Native.Nat.{ℕ, ◌+◌, ◌-◌, ◌*◌, ◌/◌, ◌%◌, ◌<◌}
use mathlib.Core.Path.{◌≡◌, sym, ap, ap₂, ◌∙◌, subst}
use mathlib.Core.Bool.{false, ◌||◌}
use native.Mathlib.Omega.{arith}
use lib.IntN.{ℤ, pos, nat_abs, ◌+ℤ◌, ◌*ℤ◌}
use mir.Syntax.{w64}
use mir.Val.{SFits}
use Rattle.numbers.specs.Range.{outside, Within}
use Rattle.numbers.proofs.Between.{natural_within, inside_pos}
use Rattle.numbers.proofs.Bools.{or_no}
use Rattle.calendar.specs.declared.Date.{Date}
use Rattle.instant.specs.Units.{per_second, per_minute, per_hour, per_day}
use Rattle.instant.specs.Instant.{fields_with, fields_at, time_of_fields}
use Rattle.instant.specs.Answers.{bad_time}

-- the fields of a time of day in natural numbers
pub record NaturalTime (hour minute second fraction : ℤ) : Type 0 where
  pub hour_within : Within 0 23 hour
  pub minute_within : Within 0 59 minute
  pub second_within : Within 0 59 second
  pub fraction_within : Within 0 (per_second - 1) fraction

module _ (hour minute second fraction : ℤ) where
  pub natural : bad_time hour minute second fraction ≡ false → NaturalTime hour minute second fraction
  natural e =
      let a = or_no (outside (pos 0) (pos 23) hour) _ e in
      let b = or_no (outside (pos 0) (pos 59) minute) _ a.1 in
      let c = or_no (outside (pos 0) (pos 59) second) _ b.1 in
      record {
        hour_within = natural_within 0 (pos 23) hour a.0;
        minute_within = natural_within 0 (pos 59) minute b.0;
        second_within = natural_within 0 (pos 59) second c.0;
        fraction_within = natural_within 0 (pos (per_second - 1)) fraction c.1;
      }

  -- the time of day
  unfoldable pub timeℕ : ℕ
  timeℕ = nat_abs hour * per_hour + nat_abs minute * per_minute + nat_abs second * per_second + nat_abs fraction

  module _ (t : NaturalTime hour minute second fraction) where
    pub time_is : time_of_fields hour minute second fraction ≡ pos timeℕ
    unfolding time_of_fields timeℕ
    time_is = λ i. time_of_fields (t.hour_within.is i) (t.minute_within.is i) (t.second_within.is i) (t.fraction_within.is i)

    pub time_small : timeℕ < per_day
    unfolding timeℕ
    time_small = omega (arith, t.hour_within.high, t.minute_within.high, t.second_within.high, t.fraction_within.high)

    -- it has these fields
    pub fields_back : (d : Date) → fields_at d timeℕ ≡ fields_with d.year d.month d.day hour minute second fraction
    unfolding fields_at timeℕ
    fields_back d =
        let h = t.hour_within.high in
        let m = t.minute_within.high in
        let s = t.second_within.high in
        let l = t.fraction_within.high in
        let p : pos (timeℕ / per_hour) ≡ hour = ap pos (omega arith) ∙ sym t.hour_within.is in
        let q : pos (timeℕ % per_hour / per_minute) ≡ minute = ap pos (omega arith) ∙ sym t.minute_within.is in
        let r : pos (timeℕ % per_minute / per_second) ≡ second = ap pos (omega arith) ∙ sym t.second_within.is in
        let u : pos (timeℕ % per_second) ≡ fraction = ap pos (omega arith) ∙ sym t.fraction_within.is in
        λ i. fields_with d.year d.month d.day (p i) (q i) (r i) (u i)

-- the products and the sums that make a tested time fit
module _ {hour minute second fraction : ℤ} (t : NaturalTime hour minute second fraction) where
  pub hours_fit : SFits w64 (hour *ℤ pos per_hour)
  hours_fit = rw t.hour_within.is (record { sfits = omega (arith, t.hour_within.high) })

  pub minutes_fit : SFits w64 (minute *ℤ pos per_minute)
  minutes_fit = rw t.minute_within.is (record { sfits = omega (arith, t.minute_within.high) })

  pub seconds_fit : SFits w64 (second *ℤ pos per_second)
  seconds_fit = rw t.second_within.is (record { sfits = omega (arith, t.second_within.high) })

  pub to_minutes_fits : SFits w64 (hour *ℤ pos per_hour +ℤ minute *ℤ pos per_minute)
  to_minutes_fits =
      rw (t.hour_within.is, t.minute_within.is) (record { sfits = omega (arith, t.hour_within.high, t.minute_within.high) })

  pub to_seconds_fits : SFits w64 (hour *ℤ pos per_hour +ℤ minute *ℤ pos per_minute +ℤ second *ℤ pos per_second)
  to_seconds_fits =
      rw (t.hour_within.is, t.minute_within.is, t.second_within.is)
      (record { sfits = omega (arith, t.hour_within.high, t.minute_within.high, t.second_within.high) })

  pub time_fits : SFits w64 (time_of_fields hour minute second fraction)
  time_fits =
      subst (SFits w64) (sym (time_is hour minute second fraction t))
      (record { sfits = omega (arith, time_small hour minute second fraction t) })

-- the fields of a time of day are within their limits, and make that time
pub fields_of_time :
    (t : ℕ) → t < per_day →
    (bad_time (pos (t / per_hour)) (pos (t % per_hour / per_minute)) (pos (t % per_minute / per_second)) (pos (t % per_second)) ≡ false)
    × (time_of_fields (pos (t / per_hour)) (pos (t % per_hour / per_minute)) (pos (t % per_minute / per_second)) (pos (t % per_second)) ≡ pos t)
unfolding time_of_fields
fields_of_time t h = (
  ap₂ ◌||◌ (inside_pos _ _ (t / per_hour) (omega arith) (omega arith))
      (ap₂ ◌||◌ (inside_pos _ _ (t % per_hour / per_minute) (omega arith) (omega arith))
      (ap₂ ◌||◌ (inside_pos _ _ (t % per_minute / per_second) (omega arith) (omega arith)) (inside_pos _ _ (t % per_second) (omega arith) (omega arith)))),
  ap pos (omega arith),
)
