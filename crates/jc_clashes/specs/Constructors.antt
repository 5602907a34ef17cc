-- Constructors of one class whose parameters have the same erasures (JLS 8.8.2).
use Rattle.std.specs.Prelude.{ℕ, Bool, true, false, ◌&&◌, cond, List, [], ◌∷◌, ◌++◌, Option, Some, None}
use Rattle.std.specs.List.{list_any}
use Rattle.jc_rules.specs.declared.rule.Place.{Place}
use Rattle.jc_rules.specs.declared.rule.Refusal.{Refusal}
use Rattle.jc_types.specs.declared.declarations.ClassDecl.{ClassDecl}
use Rattle.jc_types.specs.declared.declarations.MethodKind.{MethodKind}
use Rattle.jc_types.specs.declared.declarations.MethodKind.TheVariants as method_kind
use Rattle.jc_types.specs.declared.form.Ty.{Ty}
use Rattle.jc_types.specs.declared.ids.MethodId.{MethodId}
use Rattle.jc_types.specs.declared.table.Table.{Table}
use Rattle.jc_types.specs.Accessors.{method_kind_of, method_place_of}
use Rattle.jc_overriding.specs.Signatures.{same_all}
use Rattle.jc_header_rules.specs.Clashes.{erased_params, place_or}
use Rattle.jc_header_rules.specs.Places.{broken_if, of_each}

-- a constructor, declared or implied (JLS 8.8.9); what has no kind in the table is none
abbrev pub is_constructor_kind : MethodKind → Bool
is_constructor_kind method_kind.Constructor = true
is_constructor_kind method_kind.ImpliedConstructor = true
is_constructor_kind _ = false

abbrev pub constructor_in : Option MethodKind → Bool
constructor_in (Some k) = is_constructor_kind k
constructor_in None = false

abbrev pub is_constructor : Table → MethodId → Bool
is_constructor T m = constructor_in (method_kind_of T m)

-- a constructor whose erased parameters are those of an earlier one
abbrev pub is_repeated : Table → List (List Ty) → MethodId → Bool
is_repeated T earlier m = is_constructor T m && list_any (same_all (erased_params T m)) earlier

-- the erased parameters of one constructor more
abbrev pub with_erasure : Table → List (List Ty) → MethodId → List (List Ty)
with_erasure T earlier m = earlier ++ cond (is_constructor T m) (erased_params T m ∷ []) []

-- of these methods of a class, behind constructors of these erased parameters: the later one of two
abbrev pub constructors_from : Table → Place → List (List Ty) → List MethodId → List Refusal
constructors_from T place earlier [] = []
constructors_from T place earlier (m ∷ ms) =
    broken_if (is_repeated T earlier m) 801 (place_or place (method_place_of T m)) ++ constructors_from T place (with_erasure T earlier m) ms

-- the broken rules of class i, and of all classes of the table
abbrev pub constructors_in : Table → ℕ → ClassDecl → List Refusal
constructors_in T i c = constructors_from T c.place [] c.methods

abbrev pub constructors_breaks : Table → List Refusal
constructors_breaks T = of_each (constructors_in T) 0 T.classes
