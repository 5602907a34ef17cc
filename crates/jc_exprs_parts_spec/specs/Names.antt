-- Names of values (JLS 6.5.6, 15.8.3, 15.11, 15.13): what is found at a place, its value where it is read, and the variable where it is assigned.
use Rattle.std.specs.Prelude.{ℕ, ◌==◌, ◌||◌, ◌&&◌, not, nat_lt, Bool, true, false, List, [], ◌∷◌, ◌++◌, Option, Some, None, is_some, if◌then◌else◌, codes, slice_get}
use Rattle.std.specs.Str.{bytes_eq}
use Rattle.jc_rules.specs.declared.rule.Place.{Place}
use Rattle.jc_rules.specs.declared.rule.Refusal.{Refusal}
use Rattle.jc_types.specs.declared.constant.Constant.{Constant}
use Rattle.jc_types.specs.declared.declarations.FieldDecl.{FieldDecl}
use Rattle.jc_types.specs.declared.environment.Bounds.{Bounds}
use Rattle.jc_types.specs.declared.erased.Base.TheVariants as base
use Rattle.jc_types.specs.declared.erased.Erased.{Erased}
use Rattle.jc_types.specs.declared.form.Primitive.TheVariants.{Int}
use Rattle.jc_types.specs.declared.form.Ty.{Ty}
use Rattle.jc_types.specs.declared.form.Ty.TheVariants.{Prim}
use Rattle.jc_types.specs.declared.ids.ClassId.{ClassId}
use Rattle.jc_types.specs.declared.ids.FieldId.{FieldId}
use Rattle.jc_types.specs.declared.table.Table.{Table}
use Rattle.jc_types.specs.Accessors.{supers_of}
use Rattle.jc_types.specs.Arrays.{element}
use Rattle.jc_types.specs.Erasing.{erasure}
use Rattle.jc_convert.specs.declared.answer.Converts.{Converts}
use Rattle.jc_convert.specs.Converting.{invocation}
use Rattle.jc_typed.specs.Trees.{Operand, Operands, NoOperands, Variable, LocalVariable, StaticVariable, FieldVariable, ElementVariable, Fixed, Local, This, StaticField, Field, Element, Length}
use Rattle.jc_exprs_nodes_spec.specs.Told.{Run, fine, by_rule, breaking, onward, provided, unless}
use Rattle.jc_exprs_nodes_spec.specs.Typeds.{Typed, Settled, node, fixed, type_of, captured, plain, converted, stepped, one_operand, read_guard, use_guard, unconverted, settled}
use Rattle.jc_exprs_parts_spec.specs.Fields.{class_fields, declared_field, field_class, field_erasure, field_in, is_open_type, is_raw_as, is_static_field, may_name_field, member_fields}
use Rattle.jc_exprs_parts_spec.specs.Senses.{Sense, OfField, OfClass, OfNothing, simple_sense, next_sense, may_name_class}
use Rattle.jc_exprs_parts_spec.specs.Worlds.{World, Here, Instance, Static, Early, LocalIn, Initialising, constant_field, local_named, named_class, this_type}
use Rattle.jc_exprs_parts_spec.specs.Assigning.{Target}

-- ---- what is found

-- A field. `before` is an operand that is evaluated and dropped before a static one, or none; `of_it` is the object of another one, whose value is read
-- as a constant where that is known
pub record FieldAt : Type 0 where
  pub place : Place
  pub field : FieldId
  pub before : Operands
  pub of_it : Operand
  pub ty : Ty
  pub is_raw : Bool
  pub is_simple : Bool

pub data Located : Type 0 where
  AtLocal : Place → LocalIn → Located
  AtField : FieldAt → Located
  AtElement : (place : Place) (array index : Operand) (ty : Ty) → Located
  AtLength : (place : Place) (array : Operand) → Located

-- ---- forward references (JLS 8.3.2.3): a field that is named simply in an initialiser of its class, static or not as it is itself, before it is declared

abbrev pub field_offset : Option FieldDecl → ℕ
field_offset (Some f) = f.place.at
field_offset None = 0

abbrev pub is_that : FieldId → Option FieldId → Bool
is_that f None = false
is_that f (Some g) = f.0 == g.0

abbrev pub same_truth : Bool → Bool → Bool
same_truth true b = b
same_truth false b = not b

abbrev pub is_before_declared : World → Place → FieldId → Initialising → Bool
is_before_declared W place f i =
    same_truth i.is_static (is_static_field W.table f) && ((field_class W.table f).0 == W.class.0)
    && (is_that f i.field || nat_lt place.at (field_offset (slice_get W.table.fields f.0)))

abbrev pub is_forward_in : World → Place → FieldId → Option Initialising → Bool
is_forward_in W place f None = false
is_forward_in W place f (Some i) = is_before_declared W place f i

abbrev pub is_forward : World → FieldAt → Bool
is_forward W f = f.is_simple && is_forward_in W f.place f.field W.initialising

-- ---- its value

-- a constant variable that a local is, and any other local (JLS 15.8, 15.28)
abbrev pub local_constant : World → Place → LocalIn → Option Constant → Run Typed
local_constant W place l (Some c) = fine (fixed place l.ty (record { value = c; named = record { place = place; local = l.number } ∷ []; casts = [] }))
local_constant W place l None = captured W.table place l.ty (Local l.number) []

-- a field that isn't a constant variable: what is read of a declared type is tested for the type that it has there
abbrev pub static_value : Table → FieldAt → List Bounds → Run Typed
static_value T f env = captured T f.place f.ty (StaticField f.before f.field f.is_simple) (read_guard T env (field_erasure T f.field) f.ty)

abbrev pub object_value : Table → FieldAt → List Bounds → Run Typed
object_value T f env = captured T f.place f.ty (Field f.of_it f.field) (read_guard T env (field_erasure T f.field) f.ty)

-- a constant variable; one of an object is the constant behind the read of it, unless its simple name alone names it
abbrev pub constant_at : FieldAt → Constant → Operands → Typed
constant_at f c before = node f.place f.ty (Fixed before c [] [])

abbrev pub static_known : Table → FieldAt → List Bounds → Option Constant → Run Typed
static_known T f env (Some c) = fine (constant_at f c f.before)
static_known T f env None = static_value T f env

abbrev pub object_known : Table → FieldAt → List Bounds → Bool → Option Constant → Run Typed
object_known T f env true (Some c) = fine (constant_at f c NoOperands)
object_known T f env false (Some c) = onward (object_value T f env) (λ t. fine (constant_at f c (one_operand (plain t))))
object_known T f env is_simple None = object_value T f env

abbrev pub field_value : World → FieldAt → List Bounds → Run Typed
field_value W f env =
    provided (unless (not (is_forward W f)) 626 f.place)
    (if is_static_field W.table f.field then static_known W.table f env (constant_field W f.field)
    else object_known W.table f env f.is_simple (constant_field W f.field))

abbrev pub value_by : World → Located → List Bounds → Run Typed
value_by W (AtLocal place l) env = local_constant W place l l.constant
value_by W (AtField f) env = field_value W f env
value_by W (AtElement place array index t) env = captured W.table place t (Element array index) []
value_by W (AtLength place array) env = fine (node place (Prim Int) (Length array))

unfoldable pub value_of : World → Located → Run Typed
value_of W l env = value_by W l env env

-- ---- the variable (610 where it is none)

abbrev pub target_at : Place → Ty → Erased → Variable → Bool → Target
target_at place ty declared variable is_forward =
    record { start = place; place = place; ty = ty; declared = declared; variable = variable; is_forward = is_forward }

abbrev pub field_variable : Table → FieldAt → Variable
field_variable T f = if is_static_field T f.field then StaticVariable f.place f.before f.field f.is_simple else FieldVariable f.place f.of_it f.field f.is_raw

abbrev pub target_by : World → Located → List Bounds → Run Target
target_by W (AtLocal place l) env = fine (target_at place l.ty (erasure W.table [] l.ty) (LocalVariable place l.number) false)
target_by W (AtField f) env = fine (target_at f.place f.ty (field_erasure W.table f.field) (field_variable W.table f) (is_forward W f))
target_by W (AtElement place array index t) env = fine (target_at place t (erasure W.table env t) (ElementVariable place array index) false)
target_by W (AtLength place array) env = by_rule 610 place

unfoldable pub target_of : World → Located → Run Target
target_of W l env = target_by W l env env

-- ---- this (JLS 15.8.3, 8.8.7.1): 611 in a static place, 620 before there is an instance

abbrev pub instance_breaks : Here → Place → List Refusal
instance_breaks Instance place = []
instance_breaks Static place = breaking 611 place ∷ []
instance_breaks Early place = breaking 620 place ∷ []

abbrev pub this_at : World → Place → Typed
this_at W place = node place (this_type W) This

abbrev pub this_value : World → Place → Run Typed
this_value W place = provided (instance_breaks W.here place) (fine (this_at W place))

-- ---- fields of a value (JLS 15.11.1)

abbrev pub class_erased : ClassId → Erased
class_erased k = record { base = base.Class k; dims = 0 }

-- a field of a settled type, for an expression at a place: the object is used as one of the field's class
abbrev pub field_of : World → List Bounds → Place → Settled → FieldId → FieldAt
field_of W env place s f =
    record {
      place = place;
      field = f;
      before = one_operand (plain s.it);
      of_it = stepped s.it (use_guard W.table env (type_of s.it) (class_erased (field_class W.table f)));
      ty = field_in W.table s.ty f;
      is_raw = is_raw_as W.table s.ty (field_class W.table f);
      is_simple = false;
    }

-- 603, 622, 618
abbrev pub one_field : World → List Bounds → Place → Settled → List FieldId → Run Located
one_field W env place s [] = by_rule 603 place
one_field W env place s (f ∷ []) = provided (unless (may_name_field W s.ty f) 618 place) (fine (AtField (field_of W env place s f)))
one_field W env place s (f ∷ g ∷ fs) = by_rule 622 place

-- the length of an array (JLS 10.7)
abbrev pub is_length : Ty → List ℕ → Bool
is_length t n = is_some (element t) && bytes_eq n (codes "length")

abbrev pub array_operand : Table → List Bounds → Settled → Operand
array_operand T env s = stepped s.it (use_guard T env (type_of s.it) (erasure T env s.ty))

-- .. is a member of it as its fields are: 618 where the class of its elements may not be named there (JLS 6.6.1)
abbrev pub array_length : World → List Bounds → Place → Settled → Run Located
array_length W env place s = provided (unless (is_open_type W s.ty) 618 place) (fine (AtLength place (array_operand W.table env s)))

abbrev pub member_by : World → Place → List ℕ → Settled → List Bounds → Run Located
member_by W place n s env =
    if is_length s.ty n then array_length W env place s else one_field W env place s (member_fields W.table s.ty s.by_bounds n)

abbrev pub member_of : World → Place → List ℕ → Settled → Run Located
member_of W place n s env = member_by W place n s env env

unfoldable pub value_member : World → List ℕ → Typed → Run Located
value_member W n v = onward (settled W.table v) (member_of W v.start n)

-- ---- fields of this object's superclass (JLS 15.11.2)

abbrev pub first_super : List Ty → Option Ty
first_super [] = None
first_super (t ∷ ts) = Some t

abbrev pub super_type : World → Option Ty
super_type W = first_super (supers_of W.table W.class)

abbrev pub super_by : World → Place → List ℕ → Option Ty → Run Located
super_by W place n None = by_rule 603 place
super_by W place n (Some t) = member_of W place n (record { it = this_at W place; ty = t; by_bounds = false })

unfoldable pub super_member : World → Place → List ℕ → Run Located
super_member W place n = provided (instance_breaks W.here place) (super_by W place n (super_type W))

-- ---- elements (JLS 15.13): 617 at what isn't of an array type, 607 at an index that isn't promoted to int

abbrev pub element_breaks : Typed → Typed → Option Ty → Converts → List Refusal
element_breaks a i None c = breaking 617 a.place ∷ unconverted 607 i.start c
element_breaks a i (Some t) c = unconverted 607 i.start c

abbrev pub or_int : Option Ty → Ty
or_int (Some t) = t
or_int None = Prim Int

abbrev pub element_by : Table → List Bounds → Typed → Typed → Converts → Run Located
element_by T env a i c =
    provided (element_breaks a i (element (type_of a)) c)
    (fine (AtElement a.start (plain a) (converted T env i c) (or_int (element (type_of a)))))

abbrev pub indexed : Table → Typed → Typed → Run Located
indexed T a i env = element_by T env a i (invocation T env (type_of i) (Prim Int)) env

unfoldable pub element_of : World → Typed → Typed → Run Located
element_of W a i = indexed W.table a i

-- ---- simple names (JLS 6.5.6.1)

-- a field of the class of the place, or a static one of a class round it
abbrev pub own_breaks : World → Place → Bool → FieldId → List Refusal
own_breaks W place true f = if is_static_field W.table f then [] else instance_breaks W.here place
own_breaks W place false f = unless (is_static_field W.table f) 611 place

abbrev pub own_field : World → Place → FieldId → FieldAt
own_field W place f =
    record {
      place = place;
      field = f;
      before = NoOperands;
      of_it = plain (this_at W place);
      ty = field_in W.table (this_type W) f;
      is_raw = is_raw_as W.table (this_type W) (field_class W.table f);
      is_simple = true;
    }

abbrev pub field_here : World → Place → Bool → List FieldId → Run Located
field_here W place is_own [] = by_rule 602 place
field_here W place is_own (f ∷ []) = provided (own_breaks W place is_own f) (fine (AtField (own_field W place f)))
field_here W place is_own (f ∷ g ∷ fs) = by_rule 622 place

abbrev pub located_sense : World → Place → Sense → Run Located
located_sense W place (OfField k is_own fs) = field_here W place is_own fs
located_sense W place _ = by_rule 602 place

abbrev pub local_or : World → Place → List ℕ → Option LocalIn → Run Located
local_or W place n (Some l) = fine (AtLocal place l)
local_or W place n None = located_sense W place (simple_sense W n)

unfoldable pub simple_located : World → Place → List ℕ → Run Located
simple_located W place n = local_or W place n (local_named W n)

-- ---- names of several parts (JLS 6.5.2, 6.5.6.2)

-- what stands before a point: a value, or a class, a package or nothing
pub data Meaning : Type 0 where
  Value : Typed → Meaning
  Other : Sense → Meaning

abbrev pub as_value : World → Run Located → Run Meaning
as_value W m = onward m (λ l. onward (value_of W l) (λ t. fine (Value t)))

-- 618 where a class may not be named
abbrev pub other : World → Place → Sense → Run Meaning
other W place (OfClass k) = provided (unless (may_name_class W k) 618 place) (fine (Other (OfClass k)))
other W place s = fine (Other s)

-- a static field behind the name of a class: 603, 622, 618, 611
abbrev pub class_field : World → Place → FieldId → FieldAt
class_field W place f =
    record {
      place = place;
      field = f;
      before = NoOperands;
      of_it = plain (this_at W place);
      ty = declared_field W.table f;
      is_raw = false;
      is_simple = false;
    }

abbrev pub field_behind : World → Place → ClassId → List FieldId → Run Located
field_behind W place k [] = by_rule 603 place
field_behind W place k (f ∷ []) =
    provided (unless (may_name_field W (named_class W.table k) f) 618 place ++ unless (is_static_field W.table f) 611 place) (fine (AtField (class_field W place f)))
field_behind W place k (f ∷ g ∷ fs) = by_rule 622 place

-- the first part: a local, a field, a class or a package
abbrev pub sense_meant : World → Place → Sense → Run Meaning
sense_meant W place (OfField k is_own fs) = as_value W (field_here W place is_own fs)
sense_meant W place s = other W place s

abbrev pub local_meant : World → Place → List ℕ → Option LocalIn → Run Meaning
local_meant W place n (Some l) = as_value W (fine (AtLocal place l))
local_meant W place n None = sense_meant W place (simple_sense W n)

unfoldable pub first_meant : World → Place → List ℕ → Run Meaning
first_meant W place n = local_meant W place n (local_named W n)

-- a further part that something stands behind: 603 where a class has neither a field nor a member type of the name
abbrev pub sense_behind : World → Place → ClassId → Sense → Run Meaning
sense_behind W place k (OfField l is_own fs) = as_value W (field_behind W place k fs)
sense_behind W place k OfNothing = by_rule 603 place
sense_behind W place k s = other W place s

unfoldable pub next_meant : World → Place → List ℕ → Meaning → Run Meaning
next_meant W place n (Value v) = as_value W (value_member W n v)
next_meant W place n (Other (OfClass k)) = sense_behind W place k (next_sense W n (OfClass k))
next_meant W place n (Other s) = other W place (next_sense W n s)

-- the last part, which names a value: 602 behind a package
unfoldable pub located_behind : World → Place → List ℕ → Meaning → Run Located
located_behind W place n (Value v) = value_member W n v
located_behind W place n (Other (OfClass k)) = field_behind W place k (class_fields W.table k n)
located_behind W place n (Other s) = by_rule 602 place
