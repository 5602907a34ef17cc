-- What is known of the library by which a program runs: its classes have no parameters, and its methods have these types.
use Rattle.std.specs.Prelude.{◌≡◌, Bool, true, false, List, [], ◌∷◌, codes, Option, Some}
use Rattle.jc_types.specs.declared.form.Arg.TheVariants.{Exact}
use Rattle.jc_types.specs.declared.form.Primitive.{Primitive}
use Rattle.jc_types.specs.declared.form.Primitive.TheVariants.{Boolean, Byte, Char, Int, Long, Short}
use Rattle.jc_types.specs.declared.form.Ty.{Ty}
use Rattle.jc_types.specs.declared.form.Ty.TheVariants.{Class, Prim, Variable}
use Rattle.jc_types.specs.declared.ids.ClassId.{ClassId}
use Rattle.jc_types.specs.declared.ids.MethodId.{MethodId}
use Rattle.jc_types.specs.declared.ids.VarId.{VarId}
use Rattle.jc_types.specs.declared.table.Table.{Table}
use Rattle.jc_types.specs.Accessors.{class_named, field_type_of, method_owner_of, method_vars_of, params_of, result_of, vars_of}
use Rattle.jc_types.specs.Arrays.{array_over}
use Rattle.jc_overriding.specs.Viewing.{is_static}
use Rattle.jc_boxes.specs.Boxes.{box_of}
use Rattle.jc_heaps.specs.Layout.{field_class}
use Rattle.jc_typed.specs.declared.program.BoxedIn.{BoxedIn}
use Rattle.jc_typed.specs.declared.program.Boxes.{Boxes}
use Rattle.jc_typed.specs.declared.program.Iterating.{Iterating}
use Rattle.jc_typed.specs.declared.program.Known.{Known}
use Rattle.jc_typed.specs.declared.program.Printing.{Printing}
use Rattle.jc_typed.specs.declared.program.ThrownClasses.{ThrownClasses}

-- a class without parameters
abbrev pub IsOwn : Table → ClassId → Type 0
IsOwn T k = vars_of T k ≡ []

-- a method of a class, without type parameters, from these types to this one
pub record MethodIs (T : Table) (k : ClassId) (static : Bool) (params : List Ty) (result : Option Ty) (m : MethodId) : Type 0 where
  pub owner : method_owner_of T m ≡ Some k
  pub static_so : is_static T m ≡ static
  pub vars : method_vars_of T m ≡ []
  pub params_so : params_of T m ≡ params
  pub result_so : result_of T m ≡ result

-- the class of a primitive type, by its name (JLS 5.1.7, 5.1.8): `valueOf`, and the method that gives the value
pub record BoxIs (T : Table) (p : Primitive) (b : BoxedIn) : Type 0 where
  pub class_so : b.class ≡ box_of T p
  pub own : IsOwn T b.class
  pub make : MethodIs T b.class true (Prim p ∷ []) (Some (Class b.class [])) b.make
  pub value : MethodIs T b.class false [] (Some (Prim p)) b.value

pub record BoxesAre (T : Table) (b : Boxes) : Type 0 where
  pub boolean : BoxIs T Boolean b.boolean
  pub byte : BoxIs T Byte b.byte
  pub short : BoxIs T Short b.short
  pub char : BoxIs T Char b.char
  pub int : BoxIs T Int b.int
  pub long : BoxIs T Long b.long

-- what becomes a String (JLS 15.18.1), where the first class is Object
abbrev pub object : Ty
object = Class (record { 0 = 0 }) []

pub record PrintingIs (T : Table) (string : ClassId) (p : Printing) : Type 0 where
  pub of_boolean : MethodIs T string true (Prim Boolean ∷ []) (Some (Class string [])) p.of_boolean
  pub of_char : MethodIs T string true (Prim Char ∷ []) (Some (Class string [])) p.of_char
  pub of_int : MethodIs T string true (Prim Int ∷ []) (Some (Class string [])) p.of_int
  pub of_long : MethodIs T string true (Prim Long ∷ []) (Some (Class string [])) p.of_long
  pub of_object : MethodIs T string true (object ∷ []) (Some (Class string [])) p.of_object
  pub concat : MethodIs T string false (Class string [] ∷ []) (Some (Class string [])) p.concat

-- `Iterable<T>` gives an `Iterator<T>`, which tells whether there is a further T, and gives it (JLS 14.14.2)
pub record IteratingIs (T : Table) (i : Iterating) : Type 0 where
  pub iterable : ClassId
  pub iterator : ClassId
  pub from : VarId
  pub of_it : VarId
  pub iterable_so : iterable ≡ class_named T (codes "java.lang.Iterable")
  pub iterable_vars : vars_of T iterable ≡ from ∷ []
  pub iterator_vars : vars_of T iterator ≡ of_it ∷ []
  pub makes : MethodIs T iterable false [] (Some (Class iterator (Exact (Variable from) ∷ []))) i.iterator
  pub has_next : MethodIs T iterator false [] (Some (Prim Boolean)) i.has_next
  pub next : MethodIs T iterator false [] (Some (Variable of_it)) i.next

pub record ThrownAre (T : Table) (t : ThrownClasses) : Type 0 where
  pub error : IsOwn T t.error
  pub arithmetic : IsOwn T t.arithmetic
  pub array_store : IsOwn T t.array_store
  pub class_cast : IsOwn T t.class_cast
  pub negative_size : IsOwn T t.negative_size
  pub null_pointer : IsOwn T t.null_pointer
  pub out_of_bounds : IsOwn T t.out_of_bounds
  pub in_initialiser : IsOwn T t.in_initialiser
  pub no_class : IsOwn T t.no_class

-- the characters of a String stand in an array of its own
pub record KnownIs (T : Table) (k : Known) : Type 0 where
  pub object_own : IsOwn T (record { 0 = 0 })
  pub string_so : k.string ≡ class_named T (codes "java.lang.String")
  pub string_own : IsOwn T k.string
  pub chars_of : field_class T k.chars ≡ k.string
  pub chars : field_type_of T k.chars ≡ Some (array_over 0 (Prim Char))
  pub printing : PrintingIs T k.string k.printing
  pub boxes : BoxesAre T k.boxes
  pub iterating : IteratingIs T k.iterating
  pub thrown : ThrownAre T k.thrown
