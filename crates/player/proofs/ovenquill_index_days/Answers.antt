-- A count or a place of a slice fits.
use native.Mathlib.Omega.{arith}
use Rattle.player.proofs.Fitting.{count_fits, place_fits}
use Rattle.player.proofs.ovenquill_index_days.Goals as goal

pub returned_at-requires-clause-value_fits : goal.returned_at-requires-clause-value_fits
returned_at-requires-clause-value_fits c = count_fits _ _ (omega arith) c.index_days.ensures.answer

pub returned_at-requires-clause-place_fits : goal.returned_at-requires-clause-place_fits
returned_at-requires-clause-place_fits c = place_fits _ _ (omega arith) c.index_days.ensures.answer
