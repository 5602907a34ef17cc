use Rattle.std.proofs.Common.{◌≡◌, length}
use Rattle.jc_assign_spec.specs.Methods.{has_field}
use Rattle.jc_assign_parts.proofs.masks.has_field.Given as goal

abbrev pub invariant-loop-rest : goal.invariant-loop-rest
invariant-loop-rest l = has_field l.field l.rest ≡ has_field l.field l.fn.list

abbrev pub decreases-loop-rest : goal.decreases-loop-rest
decreases-loop-rest l = length l.rest
