use borrow.Author.Rules.{rules}
use Rattle.sheet.proofs.Trailer.{no_check, check_in}
use Rattle.sheet.proofs.check_record.Goals as goal

pub returns-in_err-claim : goal.returns-in_err-claim
returns-in_err-claim c = search (rules, no_check)

pub returns : goal.returns
returns c = search (rules, check_in)
