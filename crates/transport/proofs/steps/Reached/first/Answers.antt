-- The first value is its own position.
use Rattle.transport.proofs.Answered.{first_taken}
use Rattle.transport.proofs.steps.Reached.first.Goals as goal

pub returns : goal.returns
returns c = first_taken c.args.heard.number c.args.heard.in_range
