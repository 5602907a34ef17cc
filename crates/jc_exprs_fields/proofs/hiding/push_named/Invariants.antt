use Rattle.std.proofs.Common.{◌≡◌, ◌++◌, length}
use Rattle.jc_exprs_parts_spec.specs.Fields.{named_fields}
use Rattle.jc_exprs_fields.proofs.hiding.push_named.Given as goal

abbrev pub invariant-loop-rest : goal.invariant-loop-rest
invariant-loop-rest l = l.out ++ named_fields l.table l.name l.rest ≡ l.fn.out ++ named_fields l.table l.name l.fn.fields

abbrev pub decreases-loop-rest : goal.decreases-loop-rest
decreases-loop-rest l = length l.rest
