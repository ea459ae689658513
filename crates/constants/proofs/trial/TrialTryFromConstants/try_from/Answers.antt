-- The first number that lies outside its limits answers; where there is none the constants are the trial's numbers.
use Rattle.std.proofs.Common.{rules}
use Rattle.constants.proofs.Signed.{a_outside, b_outside, d_outside, m_outside, c_outside, k_outside, t_outside, none_outside}
use Rattle.constants.proofs.trial.TrialTryFromConstants.try_from.Goals as goal

pub returns-in_err-natural : goal.returns-in_err-natural
returns-in_err-natural c = search (rules, a_outside)

pub returns-in_err-natural-2 : goal.returns-in_err-natural-2
returns-in_err-natural-2 c = search (rules, b_outside)

pub returns-in_err-natural-3 : goal.returns-in_err-natural-3
returns-in_err-natural-3 c = search (rules, d_outside)

pub returns-in_err-natural-4 : goal.returns-in_err-natural-4
returns-in_err-natural-4 c = search (rules, m_outside)

pub returns-in_err-natural-5 : goal.returns-in_err-natural-5
returns-in_err-natural-5 c = search (rules, c_outside)

pub returns-in_err-natural-6 : goal.returns-in_err-natural-6
returns-in_err-natural-6 c = search (rules, k_outside)

pub returns-in_err-natural-7 : goal.returns-in_err-natural-7
returns-in_err-natural-7 c = search (rules, t_outside)

pub returns : goal.returns
returns c = search (rules, none_outside)
