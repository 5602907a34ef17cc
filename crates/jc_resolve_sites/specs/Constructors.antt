-- The constructors of a class (JLS 8.8, 15.9.3).
use Rattle.std.specs.Prelude.{Bool, true, false, cond, List, [], ◌∷◌, ◌++◌, map, Option, Some}
use Rattle.jc_types.specs.declared.declarations.MethodKind.{MethodKind}
use Rattle.jc_types.specs.declared.declarations.MethodKind.TheVariants as kind
use Rattle.jc_types.specs.declared.ids.ClassId.{ClassId}
use Rattle.jc_types.specs.declared.ids.MethodId.{MethodId}
use Rattle.jc_types.specs.declared.ids.VarId.{VarId}
use Rattle.jc_types.specs.declared.table.Table.{Table}
use Rattle.jc_types.specs.Accessors.{bounds_of, is_variable_arity, method_kind_of, method_vars_of, methods_of, params_of, thrown_of, vars_of}
use Rattle.jc_overriding.specs.declared.view.MethodView.{MethodView}
use Rattle.jc_overriding.specs.Viewing.{own_type}

-- a constructor, written or implied (JLS 8.8.9)
abbrev pub is_constructor_kind : Option MethodKind → Bool
is_constructor_kind (Some kind.Constructor) = true
is_constructor_kind (Some kind.ImpliedConstructor) = true
is_constructor_kind _ = false

-- of these methods the constructors
abbrev pub constructors_among : Table → List MethodId → List MethodId
constructors_among T [] = []
constructors_among T (m ∷ ms) = cond (is_constructor_kind (method_kind_of T m)) (m ∷ []) [] ++ constructors_among T ms

-- the constructors of a class, in the order of the table
abbrev pub constructor_ids : Table → ClassId → List MethodId
constructor_ids T k = constructors_among T (methods_of T k)

-- the type parameters of a constructor's class, and then its own
abbrev pub diamond_vars : Table → ClassId → MethodId → List VarId
diamond_vars T k m = vars_of T k ++ method_vars_of T m

-- the generic method that stands for a constructor where a creation has a diamond: its type parameters are those of the class and then the constructor's own, each with its bounds,
-- its parameters and thrown types are the constructor's, and its result is the class with its own parameters (JLS 15.9.3)
abbrev pub diamond_view : Table → ClassId → MethodId → MethodView
diamond_view T k m =
    record {
      id = m;
      vars = diamond_vars T k m;
      bounds = map (bounds_of T) (diamond_vars T k m);
      params = params_of T m;
      result = Some (own_type T k);
      thrown = thrown_of T m;
      variable = is_variable_arity T m;
    }
