use Rattle.std.proofs.Common.{◌+◌, ◌*◌}
use Rattle.constants.proofs.stairs.+line_gap_stairs_gap.Given as goal

-- the measure is twice the width, and one more where the staircase is still to be turned
abbrev pub decreases-line_gap : goal.decreases-line_gap
decreases-line_gap l = 2 * l.width

abbrev pub decreases-stairs_gap : goal.decreases-stairs_gap
decreases-stairs_gap l = 2 * l.width + 1
