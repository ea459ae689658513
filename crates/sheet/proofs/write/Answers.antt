use mathlib.Core.Path.{sym, ◌∙◌}
use native.Mathlib.Omega.{arith}
use Rattle.text.proofs.Writing.{renamed, nothing_written, no_room, all_written}
use Rattle.sheet.specs.Sheet.{sheet_bytes}
use Rattle.sheet.proofs.Fitting.{text_refused, text_is}
use Rattle.sheet.proofs.NumberBytes.{sheet_length_lem}
use Rattle.sheet.proofs.write.Goals as goal

pub returns-then-is_unfit : goal.returns-then-is_unfit
returns-then-is_unfit c =
    let a = c.args in
    let both = nothing_written a.out.now (text_refused a.note.now a.numbers.now (sym c.is_unfit.ensures ∙ c.if-is_unfit.true)) in record { answer = both.0; buffer = both.1 }

pub returns-then-out-length : goal.returns-then-out-length
returns-then-out-length c =
    let a = c.args in
    let both = renamed a.out.now (text_is a.note.now a.numbers.now (sym c.is_unfit.ensures ∙ c.if-is_unfit.false))
    (no_room (sheet_bytes a.note.now a.numbers.now) a.out.now (omega (arith, sheet_length_lem a.note.now a.numbers.now))) in record { answer = both.0; buffer = both.1 }

pub returns : goal.returns
returns c =
    let a = c.args in
    let l = sheet_length_lem a.note.now a.numbers.now in
    let both = renamed a.out.now (text_is a.note.now a.numbers.now (sym c.is_unfit.ensures ∙ c.if-is_unfit.false))
    (all_written (sheet_bytes a.note.now a.numbers.now) a.out.now (omega (arith, l)) (sym l) c.put_sheet.ensures) in record { answer = both.0; buffer = both.1 }
