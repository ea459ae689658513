use borrow.Author.Rules.{rules}
use Rattle.sheet.proofs.Trailer.{no_records, record_in}
use Rattle.sheet.proofs.record.Goals as goal

pub returns-in_err-opened : goal.returns-in_err-opened
returns-in_err-opened c = search (rules, no_records)

pub returns : goal.returns
returns c = search (rules, record_in)
