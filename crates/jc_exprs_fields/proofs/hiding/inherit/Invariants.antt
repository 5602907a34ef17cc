use Rattle.std.proofs.Common.{◌≡◌, length}
use Rattle.jc_exprs_parts_spec.specs.Fields.{inherited}
use Rattle.jc_exprs_fields.proofs.hiding.inherit.Given as goal

abbrev pub invariant-loop-rest : goal.invariant-loop-rest
invariant-loop-rest l = inherited l.table l.class l.found l.rest ≡ inherited l.table l.class l.fn.found l.fn.fields

abbrev pub decreases-loop-rest : goal.decreases-loop-rest
decreases-loop-rest l = length l.rest
