use Rattle.std.proofs.Common.{◌≡◌, [], length}
use Rattle.jc_exprs_parts_spec.specs.Fields.{fields_of_parts}
use Rattle.jc_exprs_fields.proofs.named.fields_of_parts.Given as goal

abbrev pub invariant-loop-rest : goal.invariant-loop-rest
invariant-loop-rest l = fields_of_parts l.table l.name l.rest l.found ≡ fields_of_parts l.table l.name l.fn.parts []

abbrev pub decreases-loop-rest : goal.decreases-loop-rest
decreases-loop-rest l = length l.rest
