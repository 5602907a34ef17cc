use Rattle.std.proofs.Common.{◌≡◌, ◌≤◌, length, take}
use Rattle.jc_exprs_parts_spec.specs.Constants.{prefixes}
use Rattle.jc_exprs_known_fields.proofs.operators.prefixes.Given as goal

abbrev pub invariant-loop-left : goal.invariant-loop-left
invariant-loop-left l = record { within : l.left ≤ length l.ops; value : prefixes (take l.left l.ops) l.value ≡ prefixes l.ops l.fn.constant }

abbrev pub decreases-loop-left : goal.decreases-loop-left
decreases-loop-left l = l.left
