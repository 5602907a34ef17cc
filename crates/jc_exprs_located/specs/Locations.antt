-- What is found at a place, as the arena of typed expressions has it.
use Rattle.std.specs.Prelude.{ℕ, ◌<◌, false, List, [], ◌∷◌, Option, Some, None}
use Rattle.jc_rules.specs.declared.rule.Place.{Place}
use Rattle.jc_rules.specs.declared.rule.Refusal.{Refusal}
use Rattle.jc_types.specs.declared.environment.Bounds.{Bounds}
use Rattle.jc_types.specs.declared.form.Ty.{Ty}
use Rattle.jc_types.specs.declared.ids.FieldId.{FieldId}
use Rattle.jc_types.specs.declared.table.Table.{Table}
use Rattle.jc_typed.specs.declared.nodes.Node.{Node}
use Rattle.jc_typed.specs.Parts.{operand_of, operands_of, type_of}
use Rattle.jc_exprs_nodes_spec.specs.Told.{breaking}
use Rattle.jc_exprs_nodes_spec.specs.Typeds.{Settled, one_operand, plain, stepped, type_of as counted_type, use_guard}
use Rattle.jc_exprs_locals.specs.Scoped.{local_of}
use Rattle.jc_exprs_parts_spec.specs.Fields.{field_class, field_in, is_raw_as}
use Rattle.jc_exprs_parts_spec.specs.Names.{FieldAt, class_erased, Located, AtLocal, AtField, AtElement, AtLength}
use Rattle.jc_exprs_located.specs.declared.located.FieldFound.{FieldFound}
use Rattle.jc_exprs_located.specs.declared.located.LocatedAt.{LocatedAt}
use Rattle.jc_exprs_located.specs.declared.located.LocatedAt.TheVariants as located

-- ---- what is found

abbrev pub field_of : List Node → FieldFound → FieldAt
field_of ns f =
    record { place = f.place; field = f.field; before = operands_of ns f.before; of_it = operand_of ns f.of; ty = type_of ns f.ty; is_raw = f.is_raw; is_simple = f.is_simple }

abbrev pub located_of : List Node → LocatedAt → Located
located_of ns (located.Local place local) = AtLocal place (local_of local.now)
located_of ns (located.Field f) = AtField (field_of ns f)
located_of ns (located.Element place array index ty) = AtElement place (operand_of ns array) (operand_of ns index) (type_of ns ty)
located_of ns (located.Length place array) = AtLength place (operand_of ns array)

-- if there is something
abbrev pub has_located : List Node → Option LocatedAt → Option Located
has_located ns None = None
has_located ns (Some l) = Some (located_of ns l)

-- its operands and types stand below a place
abbrev pub FieldBelow : ℕ → FieldFound → Type 0
FieldBelow n f = (f.before < n) × (f.of < n) × (f.ty < n)

abbrev pub IsBelow : ℕ → LocatedAt → Type 0
IsBelow n (located.Local place local) = Unit {0}
IsBelow n (located.Field f) = FieldBelow n f
IsBelow n (located.Element place array index ty) = (array < n) × (index < n) × (ty < n)
IsBelow n (located.Length place array) = array < n

abbrev pub LocatedBelow : ℕ → Option LocatedAt → Type 0
LocatedBelow n None = Unit {0}
LocatedBelow n (Some l) = IsBelow n l

-- ---- fields of values

-- a field of a settled type, for an expression at a place: of what it stands in only the table is read
abbrev pub field_of_settled : Table → List Bounds → Place → Settled → FieldId → FieldAt
field_of_settled T env place s f =
    record {
      place = place;
      field = f;
      before = one_operand (plain s.it);
      of_it = stepped s.it (use_guard T env (counted_type s.it) (class_erased (field_class T f)));
      ty = field_in T s.ty f;
      is_raw = is_raw_as T s.ty (field_class T f);
      is_simple = false;
    }

-- ---- elements

-- 617 where there are no elements
abbrev pub array_breaks : Place → Option Ty → List Refusal
array_breaks place None = breaking 617 place ∷ []
array_breaks place (Some t) = []
