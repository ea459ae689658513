-- A number below the bound fits.
use Rattle.std.proofs.Common.{to_z-of_z}
use Rattle.player.proofs.Fitting.{least_fits}
use Rattle.player.proofs.ovenquill_check_bound.Goals as goal

pub returned_at-requires-clause-place_fits : goal.returned_at-requires-clause-place_fits
returned_at-requires-clause-place_fits c = least_fits _ _ _ _ _ _ _ c.ranges.bound (rw (to_z-of_z c.ranges.bound) at c.check_bound.ensures.answer)
