-- Which method a call selects by its name and descriptor (JVMS 4.3.3, 6.5 invokevirtual and invokeinterface).
use Rattle.std.specs.Prelude.{ℕ, zero, suc, ◌+◌, Bool, true, false, not, ◌&&◌, List, [], ◌∷◌, map, Option, Some, None, if◌then◌else◌}
use Rattle.std.specs.Str.{bytes_eq}
use Rattle.jc_types.specs.declared.declarations.Access.{Access}
use Rattle.jc_types.specs.declared.declarations.Access.TheVariants as access
use Rattle.jc_types.specs.declared.declarations.MethodKind.{MethodKind}
use Rattle.jc_types.specs.declared.declarations.MethodKind.TheVariants as method_kind
use Rattle.jc_types.specs.declared.declarations.Modifiers.{Modifiers}
use Rattle.jc_types.specs.declared.erased.Erased.{Erased}
use Rattle.jc_types.specs.declared.form.Ty.{Ty}
use Rattle.jc_types.specs.declared.ids.ClassId.{ClassId}
use Rattle.jc_types.specs.declared.ids.MethodId.{MethodId}
use Rattle.jc_types.specs.Accessors.{class_count, methods_of, method_kind_of, method_modifiers_of, params_of, result_of}
use Rattle.jc_heaps.specs.Classes.{same_erased, superclass_of}
use Rattle.jc_bridges_spec.specs.declared.bridge.Bridge.{Bridge}
use Rattle.jc_erased.specs.declared.program.ErasedProgram.{ErasedProgram}
use Rattle.jc_erased.specs.Programs.{erased_type, name_of_method, bridges_of}

-- the erasures of the parameters and of the result, if there is one
pub record Descriptor : Type 0 where
  pub params : List Erased
  pub result : Option Erased

-- .. of a method by its number; None stands for `void`
abbrev pub erased_result : ErasedProgram → Option Ty → Option Erased
erased_result P (Some t) = Some (erased_type P t)
erased_result P None = None

abbrev pub descriptor_of : ErasedProgram → MethodId → Descriptor
descriptor_of P m = record { params = map (erased_type P) (params_of P.table m); result = erased_result P (result_of P.table m) }

-- equality of descriptors: as many parameters with equal erasures, and equal results or none
abbrev pub same_params : List Erased → List Erased → Bool
same_params [] [] = true
same_params (e ∷ es) (f ∷ fs) = same_erased e f && same_params es fs
same_params _ _ = false

abbrev pub same_result : Option Erased → Option Erased → Bool
same_result (Some e) (Some f) = same_erased e f
same_result None None = true
same_result _ _ = false

abbrev pub same_descriptor : Descriptor → Descriptor → Bool
same_descriptor d e = same_params d.params e.params && same_result d.result e.result

-- one method has the name and the descriptor of another
abbrev pub is_called_as : ErasedProgram → MethodId → MethodId → Bool
is_called_as P m n = bytes_eq (name_of_method P m) (name_of_method P n) && same_descriptor (descriptor_of P m) (descriptor_of P n)

-- what a method has to be for this, by its kind, access and modifiers
abbrev pub is_plain_kind : Option MethodKind → Bool
is_plain_kind (Some method_kind.Method) = true
is_plain_kind _ = false

abbrev pub is_private : Access → Bool
is_private access.Private = true
is_private _ = false

abbrev pub is_virtual_in : Option Modifiers → Bool
is_virtual_in (Some m) = not m.is_static && not (is_private m.access)
is_virtual_in None = false

-- a call by the class of its object may select it: no constructor, neither private nor static
abbrev pub is_selectable : ErasedProgram → MethodId → Bool
is_selectable P m = is_plain_kind (method_kind_of P.table m) && is_virtual_in (method_modifiers_of P.table m)

-- what a call selects: a method that a class declares, or a bridge
pub data Selected : Type 0 where
  Written : (method : MethodId) → Selected
  Across : (bridge : Bridge) → Selected

-- the first bridge that is called so, and the first method, where `other` is what none of them gives
abbrev pub among_bridges : ErasedProgram → MethodId → List Bridge → Option Selected
among_bridges P m [] = None
among_bridges P m (b ∷ bs) = if is_called_as P b.called m then Some (Across b) else among_bridges P m bs

abbrev pub among_methods : ErasedProgram → MethodId → List MethodId → Option Selected → Option Selected
among_methods P m [] other = other
among_methods P m (n ∷ ns) other = if is_selectable P n && is_called_as P n m then Some (Written n) else among_methods P m ns other

-- what a class has itself: a method before a bridge
abbrev pub in_class : ErasedProgram → MethodId → ClassId → Option Selected
in_class P m k = among_methods P m (methods_of P.table k) (among_bridges P m (bridges_of P k))

-- what was found, or else what the superclass has, if there is one
abbrev pub or_above : (ClassId → Option Selected) → Option Selected → Option ClassId → Option Selected
or_above f (Some s) k = Some s
or_above f None (Some k) = f k
or_above f None None = None

-- the nearest from a class upwards, through at most n classes
unfoldable pub selected_within : ErasedProgram → MethodId → ℕ → ClassId → Option Selected
selected_within P m zero k = None
selected_within P m (suc n) k = or_above (selected_within P m n) (in_class P m k) (superclass_of P.table k)

-- for an object of a class; no class is above itself, so these are steps enough
abbrev pub selected : ErasedProgram → ClassId → MethodId → Option Selected
selected P k m = selected_within P m (class_count P.table + 1) k
