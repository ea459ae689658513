use mathlib.Core.Logic.{⊎_elim}
use mathlib.Core.Path.{sym}
use Rattle.sheet.proofs.Trailer.{too_long, too_short, bad_trailer, good_trailer}
use Rattle.sheet.proofs.opened.Opened.open.Goals as goal

pub returns-then-length-gt-BYTES_MOST : goal.returns-then-length-gt-BYTES_MOST
returns-then-length-gt-BYTES_MOST c =
    let sheet = c.args.bytes.now in ⊎_elim (too_long sheet) (λ both. too_short sheet both.0 both.1) c.then-length-gt-BYTES_MOST.either

pub returns-then-trailer_misfits : goal.returns-then-trailer_misfits
returns-then-trailer_misfits c =
    bad_trailer c.args.bytes.now c.if-length-gt-BYTES_MOST.false c.if-length-lt-TRAILER_LENGTH.false c.number_at-offset.ensures c.number_at-records.ensures
    c.number_at-whole.ensures c.trailer_misfits.ensures c.if-trailer_misfits.true

pub invariant_of-result : goal.invariant_of-result
invariant_of-result c = record {
  is_read = sym
      (good_trailer c.args.bytes.now c.if-length-gt-BYTES_MOST.false c.if-length-lt-TRAILER_LENGTH.false c.number_at-offset.ensures
      c.number_at-records.ensures c.number_at-whole.ensures c.trailer_misfits.ensures c.if-trailer_misfits.false);
}
