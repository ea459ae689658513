use Rattle.std.proofs.Common.{rules}
use Rattle.constants.proofs.Answers.{search_refused, end_refused, search_finds}
use Rattle.constants.proofs.first_difference.Goals as goal

pub returns-in_err-trial : goal.returns-in_err-trial
returns-in_err-trial c = search (rules, search_refused)

pub returns-in_err-end : goal.returns-in_err-end
returns-in_err-end c = search (rules, end_refused)

pub returns : goal.returns
returns c = search (rules, search_finds)
