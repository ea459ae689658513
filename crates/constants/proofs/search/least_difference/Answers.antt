use Rattle.std.proofs.Common.{rules}
use Rattle.constants.proofs.Difference.{either_side}
use Rattle.constants.proofs.search.least_difference.Goals as goal

pub returns : goal.returns
returns c = search (rules, either_side)
