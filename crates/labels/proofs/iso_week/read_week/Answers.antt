use Rattle.std.proofs.Common.{◌+◌, ◌*◌, ◌/◌, sym, refl, ap, ◌∙◌, arith, w64, rules}
use Rattle.std.proofs.lemmas.Result.{err_from_is_err_and}
use mir.Facts.{to_z_pos}
use Rattle.refusal.specs.Outcome.{outcome}
use Rattle.week.specs.Answers.{week_days_answer}
use Rattle.text.specs.Words.{part_of}
use Rattle.text.proofs.Words.{bytes}
use Rattle.labels.specs.Words.{OneWord}
use Rattle.labels.proofs.ReadValues.{ValuesRead}
use Rattle.labels.proofs.Reading.{two_read, two_wrong}
use Rattle.labels.proofs.WeekTexts.{to_week_shape, from_week_shape, wrong_week, week_read}
use Rattle.labels.proofs.iso_week.read_week.Goals as goal
use Rattle.labels.proofs.iso_week.read_week.Goals.{In_ok-year}

-- what the two numbers tell of the label
read_both : (c : In_ok-year) → let label = c.args.label.now in
    ValuesRead to_week_shape (part_of 0 8 label) c.in_ok-year.year × ValuesRead from_week_shape (part_of 6 4 label) c.in_ok-year.rest
read_both c =
    let label = c.args.label.now in
    let to_week : OneWord to_week_shape c.eight_bytes-to_week.result = (omega arith, (refl, search rules)) in
    let from_week : OneWord from_week_shape c.four_bytes.result = (omega arith, (refl, search rules)) in
    two_read label (bytes label c.type_inv.label) to_week_shape from_week_shape 0 6 (omega arith) (omega arith) c.eight_bytes-to_week.ensures c.four_bytes.ensures.0
    c.in_ok-year.year c.in_ok-year.rest to_week from_week (sym (ap outcome c.in_ok-year.was) ∙ c.read_values.ensures)

pub returns-in_err-year : goal.returns-in_err-year
returns-in_err-year c =
    let label = c.args.label.now in
    let p = err_from_is_err_and c.from_residual.result c.from_residual.ensures.1 in
    rw (p.1, p.2)
    (wrong_week label c.if-label-ne-LENGTH.false
    (two_wrong label (bytes label c.type_inv.label) to_week_shape from_week_shape 0 6 (omega arith) (omega arith) c.eight_bytes-to_week.ensures c.four_bytes.ensures.0
    c.in_err-year.ensures))

pub pair-requires : goal.pair-requires
pair-requires c = ((read_both (goal.at.pair-requires c).In_ok-year).0.small, omega arith)

pub pair-requires-2 : goal.pair-requires-2
pair-requires-2 c = ((read_both (goal.at.pair-requires-2 c).In_ok-year).0.small, omega arith)

pub pair-requires-3 : goal.pair-requires-3
pair-requires-3 c = ((read_both (goal.at.pair-requires-3 c).In_ok-year).1.small, omega arith)

pub returns : goal.returns
returns c =
    let k = (goal.at.returns c).In_ok-year in
    let label = c.args.label.now in
    let r = read_both k in
    let a = c.pair.ensures in
    let b = c.pair-2.ensures in
    let w = c.pair-3.ensures in
    let y = to_z_pos w64 {n = 100 * c.pair.result + c.pair-2.result} (omega (arith, a, b, r.0.pair_below 0, r.0.pair_below 2)) in
    let v = to_z_pos w64 {n = c.pair-3.result} (omega (arith, w, r.1.pair_below 0)) in
    let d = to_z_pos w64 {n = c.in_ok-year.rest / 16777216} (omega (arith, r.1.small)) in
    c.days_from_week.ensures
    ∙ (λ i. week_days_answer (y i) (v i) (d i))
    ∙ week_read label c.if-label-ne-LENGTH.false c.in_ok-year.year c.in_ok-year.rest r.0 r.1 a b w refl
