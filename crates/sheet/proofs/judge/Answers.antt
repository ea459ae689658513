use Rattle.std.proofs.Common.{rules}
use Rattle.sheet.proofs.Trailer.{judged}
use Rattle.sheet.proofs.judge.Goals as goal

pub returns : goal.returns
returns c = search (rules, judged)
