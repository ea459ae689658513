use Rattle.std.proofs.Common.{refl, sym, ◌∙◌, arith, rules}
use Rattle.text.proofs.Words.{bytes}
use Rattle.labels.specs.Words.{OneWord}
use Rattle.labels.proofs.Shapes.{clock_shape, fraction_shape}
use Rattle.labels.proofs.Reading.{values_of, told_of}
use Rattle.labels.proofs.rfc3339.read_time.Goals as goal

pub returns-clause-values : goal.returns-clause-values
returns-clause-values c =
    let rest = c.args.rest.now in
    let p : OneWord clock_shape c.eight_bytes-clock_text.result = (omega arith, (refl, search rules)) in
    let q : OneWord fraction_shape c.four_bytes.result = (omega arith, (refl, search rules)) in
    values_of rest c.requires (bytes rest c.type_inv.rest) c.eight_bytes-clock_text.ensures c.four_bytes.ensures.0 p q c.read_values.result c.read_values.ensures

pub returns-clause-told : goal.returns-clause-told
returns-clause-told c year month day =
    let rest = c.args.rest.now in
    let p : OneWord clock_shape c.eight_bytes-clock_text.result = (omega arith, (refl, search rules)) in
    let q : OneWord fraction_shape c.four_bytes.result = (omega arith, (refl, search rules)) in
    told_of rest c.requires (bytes rest c.type_inv.rest) c.eight_bytes-clock_text.ensures c.four_bytes.ensures.0 p q year month day
    (sym c.is_letter.ensures ∙ c.if-not-is_letter.false) (sym c.is_letter-else-not-is_letter.ensures ∙ c.if-not-is_letter-2.false) c.read_values.result c.read_values.ensures
