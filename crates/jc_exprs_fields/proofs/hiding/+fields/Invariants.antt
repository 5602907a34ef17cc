use Rattle.std.proofs.Common.{◌≡◌, ◌+◌, ◌*◌, [], length}
use Rattle.jc_types.specs.Accessors.{supers_of}
use Rattle.jc_exprs_parts_spec.specs.Fields.{fields_above, fields_within, of_supers}
use Rattle.jc_exprs_fields.proofs.hiding.+fields.Given as goal

abbrev pub decreases-fields_within : goal.decreases-fields_within
decreases-fields_within l = 3 * l.steps

abbrev pub decreases-fields_above : goal.decreases-fields_above
decreases-fields_above l = 3 * l.steps + 1

abbrev pub decreases-inherited_fields : goal.decreases-inherited_fields
decreases-inherited_fields l = 3 * l.steps + 2

abbrev pub invariant-inherited_fields-loop-rest : goal.invariant-inherited_fields-loop-rest
invariant-inherited_fields-loop-rest l =
    let f = fields_above (fields_within l.table l.name l.steps) in of_supers l.table f l.class l.rest l.found ≡ of_supers l.table f l.class (supers_of l.table l.class) []

abbrev pub decreases-inherited_fields-loop-rest : goal.decreases-inherited_fields-loop-rest
decreases-inherited_fields-loop-rest l = length l.rest
