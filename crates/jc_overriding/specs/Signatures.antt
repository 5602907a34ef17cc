-- Signatures of methods, and which is a subsignature of which (JLS 8.4.2).
use Rattle.std.specs.Prelude.{ℕ, zero, suc, ◌+◌, ◌==◌, Bool, true, false, cond, ◌&&◌, ◌||◌, List, [], ◌∷◌, map, length}
use Rattle.std.specs.Str.{bytes_eq}
use Rattle.jc_types.specs.declared.environment.Bounds.{Bounds}
use Rattle.jc_types.specs.declared.form.Arg.{Arg}
use Rattle.jc_types.specs.declared.form.Ty.{Ty, Ty-F, out-Ty}
use Rattle.jc_types.specs.declared.form.Ty.TheVariants.{Variable}
use Rattle.jc_types.specs.declared.ids.VarId.{VarId}
use Rattle.jc_types.specs.declared.table.Table.{Table}
use Rattle.jc_types.specs.Accessors.{method_name_of}
use Rattle.jc_types.specs.Arrays.{array_over}
use Rattle.jc_types.specs.Erasing.{erasure}
use Rattle.jc_types.specs.Sameness.{same}
use Rattle.jc_types.specs.Substitution.{subst}
use Rattle.jc_overriding.specs.declared.view.MethodView.{MethodView}
use Rattle.jc_overriding.specs.Viewing.{erased_type}

-- as many types on both sides, the same place by place
abbrev pub same_all : List Ty → List Ty → Bool
same_all [] [] = true
same_all [] (t ∷ ts) = false
same_all (s ∷ ss) [] = false
same_all (s ∷ ss) (t ∷ ts) = same s t && same_all ss ts

-- a type is among these types, and each of some types is among others
abbrev pub is_one_of : Ty → List Ty → Bool
is_one_of s [] = false
is_one_of s (t ∷ ts) = same s t || is_one_of s ts

abbrev pub all_one_of : List Ty → List Ty → Bool
all_one_of [] ts = true
all_one_of (s ∷ ss) ts = is_one_of s ts && all_one_of ss ts

-- the same bounds of a type parameter, in any order: that of bounds tells of erasure alone (JLS 4.4)
abbrev pub same_bounds : List Ty → List Ty → Bool
same_bounds ss ts = all_one_of ss ts && all_one_of ts ss

-- as many type parameters on both sides, with the same bounds place by place
abbrev pub same_lists : List (List Ty) → List (List Ty) → Bool
same_lists [] [] = true
same_lists [] (t ∷ ts) = false
same_lists (s ∷ ss) [] = false
same_lists (s ∷ ss) (t ∷ ts) = same_bounds s t && same_lists ss ts

-- type parameters as types
abbrev pub variables : List VarId → List Ty
variables vars = map (λ v. Variable v) vars

-- a type of b's signature with a's type parameters for b's
abbrev pub adapted : MethodView → MethodView → Ty → Ty
adapted a b t = subst b.vars (variables a.vars) t

-- both methods have one name, byte by byte
abbrev pub same_name : Table → MethodView → MethodView → Bool
same_name T a b = bytes_eq (method_name_of T a.id) (method_name_of T b.id)

-- the same type parameters, with the same bounds, and the same types of parameters after adapting the type parameters (JLS 8.4.2, 8.4.4)
abbrev pub same_signature : MethodView → MethodView → Bool
same_signature a b =
    (length a.vars == length b.vars) && same_lists a.bounds (map (map (adapted a b)) b.bounds) && same_all a.params (map (adapted a b) b.params)

-- a signature without type parameters
abbrev pub has_no_variables : MethodView → Bool
has_no_variables a = length a.vars == 0

-- the first bound of a type parameter, as the view has it
abbrev pub first_or : Ty → List Ty → Ty
first_or t [] = t
first_or t (b ∷ bounds) = b

-- .. of v, where it is one of these type parameters; t where it is none of them, or has no bound
abbrev pub first_bound : Ty → VarId → List VarId → List (List Ty) → Ty
first_bound t v (w ∷ vars) (bs ∷ bounds) = cond (v.0 == w.0) (first_or t bs) (first_bound t v vars bounds)
first_bound t v _ _ = t

-- A type of a signature with leftmost bounds for the type parameters, as the view has these bounds: so `m(String)` is the erasure of what `<X extends T> m(X)` is in a
-- class type that has String for T (JLS 4.6). Bounds of bounds are at most as many as there are type parameters.
abbrev pub leftmost_at : (Ty → Ty) → MethodView → Ty → Ty-F Arg Ty → Ty
leftmost_at further b t (Ty-F.Variable v) = further (first_bound t v b.vars b.bounds)
leftmost_at further b t (Ty-F.Array of_it n) = array_over n (further of_it)
leftmost_at further b t _ = t

-- .. at most n times, as a bound may be a type parameter again
unfoldable pub leftmost : MethodView → ℕ → Ty → Ty
leftmost b zero t = t
leftmost b (suc n) t = leftmost_at (leftmost b n) b t (out-Ty t)

-- .. and with the bounds that an environment gives captured variables
abbrev pub erased_within : Table → List Bounds → MethodView → Ty → Ty
erased_within T env b t = erased_type T (erasure T env (leftmost b (length b.vars + 1) t))

-- .. without an environment
abbrev pub erased_in : Table → MethodView → Ty → Ty
erased_in T b t = erased_within T [] b t

-- a's signature is the erasure of b's (JLS 4.6)
abbrev pub is_erasure : Table → MethodView → MethodView → Bool
is_erasure T a b = has_no_variables a && same_all a.params (map (erased_in T b) b.params)

-- a's signature is a subsignature of b's
abbrev pub subsignature : Table → MethodView → MethodView → Bool
subsignature T a b = same_name T a b && (same_signature a b || is_erasure T a b)

-- one is a subsignature of the other
abbrev pub override_equivalent : Table → MethodView → MethodView → Bool
override_equivalent T a b = subsignature T a b || subsignature T b a
