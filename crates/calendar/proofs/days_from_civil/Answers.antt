use Rattle.calendar.proofs.Dates.{days_accepts}
use Rattle.calendar.proofs.days_from_civil.Goals as goal

pub returns : goal.returns
returns c =
    let d = c.args.date in
    days_accepts d.year d.month d.day c.in_ok-checked.checked c.in_ok-checked.ensures c.days_since_base.result c.days_since_base.ensures.0
