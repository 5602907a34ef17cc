use Rattle.std.proofs.Common.{◌≡◌, length}
use Rattle.jc_exprs_parts_spec.specs.Fields.{merged}
use Rattle.jc_exprs_fields.proofs.named.merge.Given as goal

abbrev pub invariant-loop-rest : goal.invariant-loop-rest
invariant-loop-rest l = merged l.found l.rest ≡ merged l.fn.found l.fn.fields

abbrev pub decreases-loop-rest : goal.decreases-loop-rest
decreases-loop-rest l = length l.rest
