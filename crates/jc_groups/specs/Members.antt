-- The declarations of classes, units and methods by their numbers.
use Rattle.std.specs.Prelude.{◌≡◌, ℕ, List, [], ◌∷◌, map, Option, Some, None}
use Rattle.jc_types.specs.declared.declarations.Owner.{Owner}
use Rattle.jc_types.specs.declared.declarations.Owner.TheVariants as owner
use Rattle.jc_types.specs.declared.ids.FieldId.{FieldId}
use Rattle.jc_types.specs.declared.ids.MethodId.{MethodId}
use Rattle.jc_declares.specs.declared.heads.ClassHead.{ClassHead}
use Rattle.jc_declares.specs.declared.heads.FieldHead.{FieldHead}
use Rattle.jc_declares.specs.declared.heads.Heads.{Heads}
use Rattle.jc_declares.specs.declared.heads.MethodPlace.{MethodPlace}
use Rattle.jc_declares.specs.declared.heads.VariableHead.{VariableHead}
use Rattle.jc_declares.specs.Heads.{declared_of, types_of_unit, class_variables, method_variables}
use Rattle.jc_declares.specs.Making.{numbers, methods_from, fields_from}
use Rattle.jc_groups.specs.declared.members.Members.{Members}
use Rattle.jc_groups.specs.Groups.{group_in}

-- the class in which a type is declared, and the unit in which one is that is in no class
abbrev pub first_of : List ℕ → Option ℕ
first_of [] = None
first_of (c ∷ round) = Some c

abbrev pub in_class : ClassHead → Option ℕ
in_class c = first_of c.round

-- the unit of a type that no class is round; None for a member type
abbrev pub unless_inside : List ℕ → ℕ → Option ℕ
unless_inside [] unit = Some unit
unless_inside (c ∷ round) unit = None

abbrev pub in_unit : ClassHead → Option ℕ
in_unit c = unless_inside c.round c.unit

-- the class of a method, and of a field
abbrev pub of_class : MethodPlace → Option ℕ
of_class m = Some m.class

abbrev pub field_of_class : FieldHead → Option ℕ
field_of_class f = Some f.class

-- the class, or the method, that type parameters belong to; None where the owner is of the other kind
abbrev pub owning_class : Owner → Option ℕ
owning_class (owner.Class c) = Some c.0
owning_class (owner.Method m) = None

abbrev pub owning_method : Owner → Option ℕ
owning_method (owner.Class c) = None
owning_method (owner.Method m) = Some m.0

-- the class, or the method, that declares a type parameter
abbrev pub variable_of_class : VariableHead → Option ℕ
variable_of_class v = owning_class v.owner

abbrev pub variable_of_method : VariableHead → Option ℕ
variable_of_method v = owning_method v.owner

-- what the groups are, for each number
pub record AreMembers (H : Heads) (M : Members) : Type 0 where
  pub types : (c : ℕ) → group_in M.types c ≡ numbers (declared_of H c)
  pub tops : (u : ℕ) → group_in M.tops u ≡ numbers (types_of_unit H u)
  pub methods : (c : ℕ) → map (λ n. let id : MethodId = record { 0 = n } in id) (group_in M.methods c) ≡ methods_from c 0 H.methods
  pub fields : (c : ℕ) → map (λ n. let id : FieldId = record { 0 = n } in id) (group_in M.fields c) ≡ fields_from c 0 H.fields
  pub class_variables : (c : ℕ) → group_in M.class_variables c ≡ numbers (class_variables H c)
  pub method_variables : (m : ℕ) → group_in M.method_variables m ≡ numbers (method_variables H m)
