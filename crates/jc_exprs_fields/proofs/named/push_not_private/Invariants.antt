use Rattle.std.proofs.Common.{◌≡◌, ◌++◌, length}
use Rattle.jc_exprs_parts_spec.specs.Fields.{not_private}
use Rattle.jc_exprs_fields.proofs.named.push_not_private.Given as goal

abbrev pub invariant-loop-rest : goal.invariant-loop-rest
invariant-loop-rest l = l.out ++ not_private l.table l.rest ≡ l.fn.out ++ not_private l.table l.fn.fields

abbrev pub decreases-loop-rest : goal.decreases-loop-rest
decreases-loop-rest l = length l.rest
