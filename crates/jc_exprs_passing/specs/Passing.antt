-- Arguments one by one: what each is where it goes to the first of the parameters that are left.
use Rattle.std.specs.Prelude.{List, [], ◌∷◌, ◌++◌}
use Rattle.jc_rules.specs.declared.rule.Place.{Place}
use Rattle.jc_types.specs.declared.environment.Bounds.{Bounds}
use Rattle.jc_types.specs.declared.erased.Erased.{Erased}
use Rattle.jc_types.specs.declared.form.Ty.{Ty}
use Rattle.jc_types.specs.declared.table.Table.{Table}
use Rattle.jc_typed.specs.Trees.{Operand, Operands, MoreOperands}
use Rattle.jc_exprs_nodes_spec.specs.Typeds.{Typed, plain, stepped}
use Rattle.jc_exprs_spec.specs.Calls.{guards_of, packed_array, passed, passed_to}

-- an argument as it goes to the first of these parameters, with the guard of the first declared one; as it stands where no parameter is left
abbrev pub passed_one : Table → List Bounds → Typed → List Ty → List Erased → Operand
passed_one T env t [] es = plain t
passed_one T env t (p ∷ ps) es = stepped t (passed_to T env t p ++ guards_of T env p es)

-- what is left where no parameter but the last is
abbrev pub packed_last : Table → List Bounds → Place → Operands → List Typed → List Ty → List Erased → Operands
packed_last T env place before ts [] es = passed T env before ts [] es
packed_last T env place before ts (p ∷ ps) es = MoreOperands before (packed_array T env place ts p (guards_of T env p es))
