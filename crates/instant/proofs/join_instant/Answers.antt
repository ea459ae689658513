-- An accepted date and an accepted time make a product and a sum that fit.
use Rattle.std.proofs.Common.{◌≡◌, arith}
use mir.Facts.{to_z-of_z}
use mir.Val.{SFits}
use mir.Syntax.{w64}
use lib.IntN.{ℤ, pos, ◌*ℤ◌, ◌+ℤ◌}
use Rattle.refusal.specs.Outcome.{value}
use Rattle.numbers.proofs.Machine.{read}
use Rattle.calendar.specs.Answers.{days_answer}
use Rattle.instant.specs.Units.{per_day}
use Rattle.instant.specs.Answers.{join_answer}
use Rattle.instant.specs.Checked.{time_answer}
use Rattle.instant.proofs.Joined.{midnight_of_date_fits, join_fits, join_accepts}
use Rattle.instant.proofs.join_instant.Goals as goal

module _ (year month day : ℤ) where
  product_fits : (days : ℤ) → SFits w64 days → value days ≡ days_answer year month day → SFits w64 (read days *ℤ pos per_day)
  product_fits days f e = rw (to_z-of_z f) (midnight_of_date_fits year month day days e)

  module _ (hour minute second fraction : ℤ) where
    sum_fits :
        (days time : ℤ) → SFits w64 days → SFits w64 time → value days ≡ days_answer year month day → value time ≡ time_answer hour minute second fraction →
        SFits w64 (read (read days *ℤ pos per_day) +ℤ read time)
    sum_fits days time f g e t =
        let p = midnight_of_date_fits year month day days e in
        rw (to_z-of_z f, to_z-of_z p, to_z-of_z g) (join_fits year month day days e hour minute second fraction time t)

    accepts :
        (days time : ℤ) → SFits w64 days → SFits w64 time → value days ≡ days_answer year month day → value time ≡ time_answer hour minute second fraction →
        value (read (read (read days *ℤ pos per_day) +ℤ read time)) ≡ join_answer year month day hour minute second fraction
    accepts days time f g e t =
        let p = midnight_of_date_fits year month day days e in
        let s = join_fits year month day days e hour minute second fraction time t in
        rw (to_z-of_z f, to_z-of_z p, to_z-of_z g, to_z-of_z s) (join_accepts year month day days e hour minute second fraction time t)

pub overflow_mul-result : goal.overflow_mul-result
overflow_mul-result c = let d = c.date.result in grind (arith, product_fits d.year d.month d.day)

pub overflow_add-result : goal.overflow_add-result
overflow_add-result c =
    let d = c.date.result in
    let f = c.args.fields in
    grind (arith, sum_fits d.year d.month d.day f.hour f.minute f.second f.millisecond)

pub returns : goal.returns
returns c = grind (arith, accepts)
