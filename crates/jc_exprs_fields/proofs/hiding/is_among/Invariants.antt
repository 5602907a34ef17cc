use Rattle.std.proofs.Common.{◌≡◌, length}
use Rattle.jc_exprs_parts_spec.specs.Fields.{is_among}
use Rattle.jc_exprs_fields.proofs.hiding.is_among.Given as goal

abbrev pub invariant-loop-rest : goal.invariant-loop-rest
invariant-loop-rest l = is_among l.field l.rest ≡ is_among l.field l.fn.fields

abbrev pub decreases-loop-rest : goal.decreases-loop-rest
decreases-loop-rest l = length l.rest
