use Rattle.std.proofs.Common.{◌≡◌}
use Rattle.text.specs.Words.{bytes_of}
use Rattle.text.specs.Filled.{filled}
use Rattle.labels.proofs.buffer.store.Given as goal

abbrev pub invariant-loop-i : goal.invariant-loop-i
invariant-loop-i l = l.out ≡ filled l.at (bytes_of l.i l.word) l.initial.out
