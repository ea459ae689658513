use mathlib.Core.Path.{refl}
use native.Mathlib.Omega.{arith}
use Rattle.text.proofs.Filled.{put_stored}
use Rattle.sheet.proofs.NumberBytes.{sheet_stored}
use Rattle.sheet.proofs.bytes.put_sheet.Goals as goal

pub returns : goal.returns
returns c =
    let a = c.args in
    let noted = put_stored 0 a.note.now a.out.now (omega arith) (c.put-offset.ensures.place, c.put-offset.ensures.buffer) in
    sheet_stored a.note.now a.numbers.now a.out.now noted c.put_numbers.ensures refl c.put_numbers-2.ensures
