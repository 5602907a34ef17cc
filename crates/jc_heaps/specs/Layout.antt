-- The fields of objects and of classes.
use Rattle.std.specs.Prelude.{ℕ, zero, suc, ◌+◌, ◌==◌, pos, Bool, false, List, [], ◌∷◌, ◌++◌, map, Option, Some, None, if◌then◌else◌}
use Rattle.jc_types.specs.declared.ids.ClassId.{ClassId}
use Rattle.jc_types.specs.declared.ids.FieldId.{FieldId}
use Rattle.jc_types.specs.declared.form.Ty.{Ty, Ty-F, out-Ty}
use Rattle.jc_types.specs.declared.form.Arg.{Arg}
use Rattle.jc_types.specs.declared.form.Primitive.{Primitive}
use Rattle.jc_types.specs.declared.form.Primitive.TheVariants.{Long as LongType}
use Rattle.jc_types.specs.declared.erased.Erased.{Erased}
use Rattle.jc_types.specs.declared.erased.Base.{Base}
use Rattle.jc_types.specs.declared.erased.Base.TheVariants as base
use Rattle.jc_types.specs.declared.declarations.Modifiers.{Modifiers}
use Rattle.jc_types.specs.declared.table.Table.{Table}
use Rattle.jc_types.specs.Accessors.{class_count, fields_of, field_owner_of, field_modifiers_of, field_type_of}
use Rattle.jc_running.specs.declared.value.Value.{Value}
use Rattle.jc_running.specs.declared.value.Value.TheVariants.{Whole, Long, Null}
use Rattle.jc_heaps.specs.Classes.{object_class, superclass_of}

-- zero of a primitive type: a `long` is held as such, all others as whole numbers, and a boolean is then false
abbrev pub zero_of : Primitive → Value
zero_of LongType = Long (pos 0)
zero_of _ = Whole (pos 0)

-- zero for a primitive type, and null for each other type
abbrev pub default_at : Ty-F Arg Ty → Value
default_at (Ty-F.Prim p) = zero_of p
default_at _ = Null

-- the value of a new variable of a type (JLS 4.12.5)
abbrev pub default_value : Ty → Value
default_value t = default_at (out-Ty t)

-- the value of a new element of an erased type, as of a new variable (JLS 4.12.5)
abbrev pub default_base : Base → Value
default_base (base.Prim p) = zero_of p
default_base _ = Null

abbrev pub default_erased : Erased → Value
default_erased e = if e.dims == 0 then default_base e.base else Null

-- whether a field is static; one that the table doesn't have is not
abbrev pub is_static_in : Option Modifiers → Bool
is_static_in (Some m) = m.is_static
is_static_in None = false

abbrev pub is_static : Table → FieldId → Bool
is_static T f = is_static_in (field_modifiers_of T f)

-- the value of a new field, by its type; null where the table has no such field
abbrev pub default_in : Option Ty → Value
default_in (Some t) = default_value t
default_in None = Null

abbrev pub default_of : Table → FieldId → Value
default_of T f = default_in (field_type_of T f)

-- a class, or Object where there is none
abbrev pub or_object : Option ClassId → ClassId
or_object (Some k) = k
or_object None = object_class

-- the class that declares a field
abbrev pub field_class : Table → FieldId → ClassId
field_class T f = or_object (field_owner_of T f)

-- those of the fields that aren't static, in their order
abbrev pub instance_only : Table → List FieldId → List FieldId
instance_only T [] = []
instance_only T (f ∷ fs) = if is_static T f then instance_only T fs else f ∷ instance_only T fs

-- the fields of the superclass; none where there is no superclass
abbrev pub fields_above : (ClassId → List FieldId) → Option ClassId → List FieldId
fields_above f None = []
fields_above f (Some k) = f k

-- the instance fields of a class and of at most n superclasses, the topmost first
unfoldable pub fields_within : Table → ℕ → ClassId → List FieldId
fields_within T zero k = []
fields_within T (suc n) k = fields_above (fields_within T n) (superclass_of T k) ++ instance_only T (fields_of T k)

-- the fields of an object, in the order in which it has them (JLS 8.3, 12.5)
unfoldable pub object_fields : Table → ClassId → List FieldId
object_fields T k = fields_within T (class_count T + 1) k

-- a place one further on; None stays
abbrev pub one_further : Option ℕ → Option ℕ
one_further None = None
one_further (Some n) = Some (suc n)

-- the place of the first field that is this one
abbrev pub place_in : FieldId → List FieldId → Option ℕ
place_in f [] = None
place_in f (g ∷ gs) = if f.0 == g.0 then Some 0 else one_further (place_in f gs)

-- the place of a field in each object of its class or of a subclass
abbrev pub slot_of : Table → FieldId → Option ℕ
slot_of T f = place_in f (object_fields T (field_class T f))

-- the fields of a new object
abbrev pub new_fields : Table → ClassId → List Value
new_fields T k = map (default_of T) (object_fields T k)
