-- A number below the end fits.
use Rattle.std.proofs.Common.{to_z-of_z}
use Rattle.player.proofs.Fitting.{found_fits}
use Rattle.player.proofs.ovenquill_first_difference.Goals as goal

pub returned_found-requires : goal.returned_found-requires
returned_found-requires c = found_fits _ _ _ _ _ _ _ c.ranges.end (rw (to_z-of_z c.ranges.end) at c.first_difference.ensures.answer)
