use Rattle.std.proofs.Common.{◌+◌, ◌*◌, drop, sym, refl, ap, ◌∙◌, arith, rules}
use Rattle.std.proofs.lemmas.Result.{err_from_is_err_and}
use Rattle.refusal.specs.Outcome.{outcome}
use Rattle.labels.specs.Parts.{read_time}
use Rattle.text.specs.Words.{part_of}
use Rattle.text.proofs.Words.{bytes}
use Rattle.labels.specs.Words.{OneWord}
use Rattle.labels.proofs.ReadValues.{ValuesRead}
use Rattle.labels.proofs.Reading.{year_shape, from_year_shape, two_read, two_wrong, wrong_date, date_read}
use Rattle.labels.proofs.rfc3339.read_date.Goals as goal
use Rattle.labels.proofs.rfc3339.read_date.Goals.{In_ok-date}

-- what the two numbers tell of the label
read_both : (c : In_ok-date) → let label = c.args.label.now in
    ValuesRead from_year_shape (part_of 2 8 label) c.in_ok-date.date × ValuesRead year_shape (part_of 0 4 label) c.in_ok-date.year
read_both c =
    let label = c.args.label.now in
    let date_word : OneWord from_year_shape c.eight_bytes-date_text.result = (omega arith, (refl, search rules)) in
    let year_word : OneWord year_shape c.four_bytes.result = (omega arith, (refl, search rules)) in
    two_read label (bytes label c.type_inv.label) from_year_shape year_shape 2 0 (omega arith) (omega arith) c.eight_bytes-date_text.ensures c.four_bytes.ensures.0
    c.in_ok-date.date c.in_ok-date.year date_word year_word (sym (ap outcome c.in_ok-date.was) ∙ c.read_values.ensures)

pub returns-in_err-date : goal.returns-in_err-date
returns-in_err-date c =
    let label = c.args.label.now in
    let p = err_from_is_err_and c.from_residual.result c.from_residual.ensures.1 in
    rw (p.1, p.2)
    (wrong_date label
    (two_wrong label (bytes label c.type_inv.label) from_year_shape year_shape 2 0 (omega arith) (omega arith) c.eight_bytes-date_text.ensures c.four_bytes.ensures.0
    c.in_err-date.ensures))

pub pair-requires : goal.pair-requires
pair-requires c = ((read_both (goal.at.pair-requires c).In_ok-date).1.small, omega arith)

pub pair-requires-2 : goal.pair-requires-2
pair-requires-2 c = ((read_both (goal.at.pair-requires-2 c).In_ok-date).0.small, omega arith)

pub pair-requires-3 : goal.pair-requires-3
pair-requires-3 c = ((read_both (goal.at.pair-requires-3 c).In_ok-date).0.small, omega arith)

pub pair-requires-4 : goal.pair-requires-4
pair-requires-4 c = ((read_both (goal.at.pair-requires-4 c).In_ok-date).0.small, omega arith)

pub invariant_of-result : goal.invariant_of-result
invariant_of-result c =
    let r = read_both (goal.at.invariant_of-result c).In_ok-date in
    record {
      two_digits = (
        omega (arith, c.pair.ensures, r.1.pair_below 0),
        (
          omega (arith, c.pair-2.ensures, r.0.pair_below 0),
          (omega (arith, c.pair-3.ensures, r.0.pair_below 3), omega (arith, c.pair-4.ensures, r.0.pair_below 6)),
        ),
      );
    }

pub returns : goal.returns
returns c =
    let k = (goal.at.returns c).In_ok-date in
    let label = c.args.label.now in
    let r = read_both k in
    (λ i. read_time (100 * c.pair.ensures i + c.pair-2.ensures i) (c.pair-3.ensures i) (c.pair-4.ensures i) (drop 10 label))
    ∙ date_read label k.in_ok-date.year k.in_ok-date.date c.requires r.1 r.0
