-- What stores into a lent buffer leave.
use Rattle.text.proofs.Words.{length_bytes}
use Rattle.text.proofs.Filled.{filled_nothing, filled_byte}

pub ruleset stores = (filled_nothing, filled_byte, length_bytes)
