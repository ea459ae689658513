-- The laws of instants: fields and instants are one-to-one, days keep the order, and an instant's date is the calendar's.
use Prim.Native.Nat.{◌/◌, ◌%◌}
use mathlib.Core.Path.{◌≡◌, sym, ap, ap₂, ◌∙◌}
use mathlib.Core.Bool.{false, cond}
use lib.Dec.{lit<}
use lib.IntN.{ℤ, pos, ◌+ℤ◌, ◌*ℤ◌}
use lib.Signed.{lt_z}
use Rattle.refusal.specs.Outcome.{Outcome, value, refused}
use Rattle.numbers.specs.Range.{outside}
use Rattle.numbers.proofs.Floor.{quotient_and_remainder}
use Rattle.numbers.proofs.Quotients.{quotient_monotone, quotient_is, remainder_is}
use Rattle.refusal.proofs.Outcomes.{passes, same_value}
use Rattle.calendar.specs.Range.{first_count, last_count}
use Rattle.calendar.specs.Gregorian.{date_of}
use Rattle.calendar.specs.Count.{date_of_count}
use Rattle.calendar.proofs.Dates.{days_inside}
use Rattle.calendar.proofs.Laws.{days_of_date_of_count, date_of_days}
use Rattle.instant.specs.Units.{per_second, per_minute, per_hour, per_day}
use Rattle.instant.specs.Instant.{day_of, time_of, fields_with, fields_at, fields_of}
use Rattle.instant.specs.Answers.{bad_instant, split_answer, join_answer}
use Rattle.instant.specs.declared.Fields.{Fields}
use Rattle.instant.proofs.Times.{natural, timeℕ, time_is, time_small, fields_back, fields_of_time}
use Rattle.instant.proofs.Joined.{joined, join_accepted}
use Rattle.instant.proofs.Ranges.{day_inside, time_below, instant_inside}

-- a later instant has a later or the same day
pub later_day : (a b : ℤ) → lt_z b a ≡ false → lt_z (day_of b) (day_of a) ≡ false
unfolding day_of
later_day a b h = quotient_monotone a b per_day (lit< tt) h

-- day and time of day make the instant
pub day_and_time : (instant : ℤ) → day_of instant *ℤ pos per_day +ℤ pos (time_of instant) ≡ instant
unfolding day_of time_of
day_and_time instant = quotient_and_remainder instant per_day (lit< tt)

-- an accepted instant
split_accepted : (instant : ℤ) (f : Fields) → split_answer instant ≡ value f → (bad_instant instant ≡ false) × (fields_of instant ≡ f)
unfolding split_answer
split_accepted instant f e = let p = passes (bad_instant instant) 4 _ (sym e) in (p.0, sym (same_value p.1))

join_fields : Fields → Outcome ℤ
join_fields f = join_answer f.year f.month f.day f.hour f.minute f.second f.millisecond

joins_back : (instant : ℤ) → bad_instant instant ≡ false → join_fields (fields_of instant) ≡ value instant
unfolding join_fields fields_of fields_at
joins_back instant h =
    let d = date_of_count (day_of instant) in
    let t = time_of instant in
    let k = fields_of_time t (time_below instant) in
    joined (pos (t / per_hour)) (pos (t % per_hour / per_minute)) (pos (t % per_minute / per_second)) (pos (t % per_second)) d.year d.month d.day
    (day_of instant) (sym (days_of_date_of_count (day_of instant) (day_inside instant h))) k.0
    ∙ ap value (ap (λ (y : ℤ). day_of instant *ℤ pos per_day +ℤ y) k.1 ∙ day_and_time instant)

-- split, then join: the instant comes back
pub split_join :
    (instant : ℤ) (f : Fields) → split_answer instant ≡ value f →
    join_answer f.year f.month f.day f.hour f.minute f.second f.millisecond ≡ value instant
unfolding join_fields
split_join instant f e =
    let a = split_accepted instant f e in
    ap join_fields (sym a.1) ∙ joins_back instant a.0

-- join, then split: the fields come back
pub join_split :
    (year month day hour minute second fraction instant : ℤ) → join_answer year month day hour minute second fraction ≡ value instant →
    split_answer instant ≡ value (fields_with year month day hour minute second fraction)
unfolding split_answer fields_of day_of time_of
join_split year month day hour minute second fraction instant e =
    let a = join_accepted year month day hour minute second fraction instant (sym e) in
    let t = natural hour minute second fraction a.not_bad in
    let n = timeℕ hour minute second fraction in
    let l = time_small hour minute second fraction t in
    let z = a.count in
    let i = days_inside year month day z a.days in
    let is : instant ≡ z *ℤ pos per_day +ℤ pos n = a.is ∙ ap (λ (y : ℤ). z *ℤ pos per_day +ℤ y) (time_is hour minute second fraction t) in
    ap split_answer is ∙ ap (λ b. cond b (refused 4) (value (fields_of (z *ℤ pos per_day +ℤ pos n)))) (instant_inside z i n l)
    ∙ ap value
    (ap₂ fields_at (ap date_of_count (quotient_is per_day n l z) ∙ date_of_days year month day z (sym a.days)) (remainder_is per_day n l z)
    ∙ fields_back hour minute second fraction t (date_of year month day))

-- the date in the fields is that of the instant's day, which lies in the calendar's range
pub split_date :
    (instant : ℤ) (f : Fields) → split_answer instant ≡ value f →
    (outside first_count last_count (day_of instant) ≡ false) × (date_of f.year f.month f.day ≡ date_of_count (day_of instant))
unfolding fields_of fields_at
split_date instant f e =
    let a = split_accepted instant f e in
    (day_inside instant a.0, ap (λ (f : Fields). date_of f.year f.month f.day) (sym a.1))
