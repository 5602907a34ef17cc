use Rattle.std.proofs.Common.{◌+◌, ◌*◌}
use Rattle.jc_parse_parts.proofs.annotations.+values.Given as goal

abbrev pub decreases-value_within : goal.decreases-value_within
decreases-value_within l = 60 * l.height

abbrev pub decreases-some_values : goal.decreases-some_values
decreases-some_values l = 60 * l.height + 2

abbrev pub decreases-value_row : goal.decreases-value_row
decreases-value_row l = 60 * l.height + 3

abbrev pub decreases-some_values-separated : goal.decreases-some_values-separated
decreases-some_values-separated l = 60 * l.height + 1
