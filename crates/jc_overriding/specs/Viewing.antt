-- A method as a type has it: with the type's arguments for the parameters of the method's class, or erased where the type is raw there (JLS 4.5.2, 4.8).
use Rattle.std.specs.Prelude.{ℕ, zero, suc, Bool, true, false, List, [], ◌∷◌, map, Option, Some, None}
use Rattle.std.specs.Option.{option_map}
use Rattle.jc_types.specs.declared.declarations.Modifiers.{Modifiers}
use Rattle.jc_types.specs.declared.erased.Base.{Base}
use Rattle.jc_types.specs.declared.erased.Base.TheVariants as base
use Rattle.jc_types.specs.declared.erased.Erased.{Erased}
use Rattle.jc_types.specs.declared.form.Arg.{Arg}
use Rattle.jc_types.specs.declared.form.Arg.TheVariants.{Exact}
use Rattle.jc_types.specs.declared.form.Ty.{Ty, Ty-F, out-Ty}
use Rattle.jc_types.specs.declared.form.Ty.TheVariants.{Prim, Class, Raw, Variable, NullTy}
use Rattle.jc_types.specs.declared.ids.ClassId.{ClassId}
use Rattle.jc_types.specs.declared.ids.MethodId.{MethodId}
use Rattle.jc_types.specs.declared.ids.VarId.{VarId}
use Rattle.jc_types.specs.declared.table.Table.{Table}
use Rattle.jc_types.specs.Accessors.{vars_of, bounds_of, method_owner_of, method_modifiers_of, method_vars_of, params_of, result_of, thrown_of, is_variable_arity}
use Rattle.jc_types.specs.Arrays.{array_over}
use Rattle.jc_types.specs.Erasing.{erasure}
use Rattle.jc_types.specs.Reifying.{arguments}
use Rattle.jc_types.specs.Substitution.{subst}
use Rattle.jc_judge.specs.Views.{view, exacts}
use Rattle.jc_overriding.specs.declared.view.MethodView.{MethodView}

-- ---- erasure as a type (JLS 4.6)

-- a class as a type without arguments: raw where the class has parameters (JLS 4.8)
abbrev pub plain_class : Table → ClassId → List VarId → Ty
plain_class T k [] = Class k []
plain_class T k (v ∷ vars) = Raw k

-- an erased type without its dimensions, as a type
abbrev pub base_type : Table → Base → Ty
base_type T (base.Prim p) = Prim p
base_type T (base.Class k) = plain_class T k (vars_of T k)
base_type T base.NullTy = NullTy

-- an array of n dimensions of t; t itself where n is 0
abbrev pub with_dims : ℕ → Ty → Ty
with_dims zero t = t
with_dims (suc n) t = array_over n t

-- an erased type as a type
abbrev pub erased_type : Table → Erased → Ty
erased_type T e = with_dims e.dims (base_type T e.base)

-- the erasure of a declared type: a generic class is raw
abbrev pub plain : Table → Ty → Ty
plain T t = erased_type T (erasure T [] t)

-- ---- how a type sees what one of its supertypes declares

-- with these types for these type parameters, or erased (`Raised`), as members of a raw type are (JLS 4.8)
pub data Seeing : Type 0 where
  With : List VarId → List Ty → Seeing
  Raised : Seeing

-- by the arguments of a captured class type, or erased, where it is raw
abbrev pub seeing_by : Table → List VarId → Option (List Arg) → Seeing
seeing_by T vars None = Raised
seeing_by T vars (Some args) = With vars (exacts args)

-- the parameters of the class of a class type; of any other type there are none
abbrev pub vars_at : Table → Ty-F Arg Ty → List VarId
vars_at T (Ty-F.Class id args) = vars_of T id
vars_at T _ = []

-- how a type sees the members of its own class
abbrev pub seeing_of : Table → Ty → Seeing
seeing_of T t = seeing_by T (vars_at T (out-Ty t)) (arguments T t)

-- the bounds of each type parameter of a list, with types for the parameters of the class
abbrev pub bounds_with : Table → List VarId → List Ty → List VarId → List (List Ty)
bounds_with T vars by list = map (λ v. map (subst vars by) (bounds_of T v)) list

-- a method by the arguments of a supertype
abbrev pub viewed_with : Table → MethodId → List VarId → List Ty → MethodView
viewed_with T m vars by =
    record {
      id = m;
      vars = method_vars_of T m;
      bounds = bounds_with T vars by (method_vars_of T m);
      params = map (subst vars by) (params_of T m);
      result = option_map (subst vars by) (result_of T m);
      thrown = map (subst vars by) (thrown_of T m);
      variable = is_variable_arity T m;
    }

-- the erasure of a method has no type parameters (JLS 4.6)
abbrev pub viewed_plain : Table → MethodId → MethodView
viewed_plain T m =
    record {
      id = m;
      vars = [];
      bounds = [];
      params = map (plain T) (params_of T m);
      result = option_map (plain T) (result_of T m);
      thrown = map (plain T) (thrown_of T m);
      variable = is_variable_arity T m;
    }

-- as it is declared
abbrev pub declared_view : Table → MethodId → MethodView
declared_view T m = viewed_with T m [] []

-- the modifiers of a method have `static`, written or implied; a method that the table doesn't have isn't static
abbrev pub static_in : Option Modifiers → Bool
static_in (Some m) = m.is_static
static_in None = false

abbrev pub is_static : Table → MethodId → Bool
is_static T m = static_in (method_modifiers_of T m)

-- static members are as they are declared, of a raw type too (JLS 4.8)
abbrev pub viewed_by : Table → MethodId → Bool → Seeing → MethodView
viewed_by T m true s = declared_view T m
viewed_by T m false (With vars by) = viewed_with T m vars by
viewed_by T m false Raised = viewed_plain T m

-- a method by the view of a type as the method's class, if it has one
abbrev pub viewed_in : Table → MethodId → Option Ty → Option MethodView
viewed_in T m None = None
viewed_in T m (Some v) = Some (viewed_by T m (is_static T m) (seeing_of T v))

-- the view of a type as the class of a method; None where it has none, or the method has no class
abbrev pub view_of_owner : Table → Ty → Option ClassId → Option Ty
view_of_owner T t None = None
view_of_owner T t (Some k) = view T k t

-- a method as a captured type has it, if the type has a view as the method's class
abbrev pub view_of_method : Table → Ty → MethodId → Option MethodView
view_of_method T t m = viewed_in T m (view_of_owner T t (method_owner_of T m))

-- the type of a class inside of it (JLS 8.1.2)
abbrev pub own_type : Table → ClassId → Ty
own_type T k = Class k (map (λ v. Exact (Variable v)) (vars_of T k))

-- a method as class k has it
abbrev pub class_view : Table → ClassId → MethodId → Option MethodView
class_view T k m = view_of_method T (own_type T k) m
