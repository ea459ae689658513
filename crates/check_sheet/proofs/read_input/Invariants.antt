use Rattle.std.proofs.Common.{◌≤◌, length}
use Rattle.check_sheet.proofs.read_input.Given as goal

abbrev pub invariant-loop : goal.invariant-loop
invariant-loop g l = l.filled ≤ length l.buffer
