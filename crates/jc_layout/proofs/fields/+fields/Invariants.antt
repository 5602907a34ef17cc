use Rattle.std.proofs.Common.{◌+◌, ◌*◌}
use Rattle.jc_layout.proofs.fields.+fields.Given as goal

abbrev pub decreases-fields_within : goal.decreases-fields_within
decreases-fields_within l = 2 * l.steps

abbrev pub decreases-fields_above : goal.decreases-fields_above
decreases-fields_above l = 2 * l.steps + 1
