use Rattle.std.proofs.Common.{rules}
use Rattle.constants.proofs.Answers.{claim_refused, bound_refused, claim_below, claim_at_bound, claim_nowhere}
use Rattle.constants.proofs.check_bound.Goals as goal

pub returns-in_err-trial : goal.returns-in_err-trial
returns-in_err-trial c = search (rules, claim_refused)

pub returns-in_err-bound : goal.returns-in_err-bound
returns-in_err-bound c = search (rules, bound_refused)

pub returns-in-Some : goal.returns-in-Some
returns-in-Some c = search (rules, claim_below)

pub returns-then-differs : goal.returns-then-differs
returns-then-differs c = search (rules, claim_at_bound)

pub returns-else-differs : goal.returns-else-differs
returns-else-differs c = search (rules, claim_nowhere)
