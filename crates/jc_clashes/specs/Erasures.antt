-- Lists of the erased parameters of methods (JLS 4.6).
use Rattle.std.specs.Prelude.{Bool, cond, List, [], ◌∷◌, ◌++◌}
use Rattle.std.specs.List.{list_any}
use Rattle.jc_types.specs.declared.form.Ty.{Ty}
use Rattle.jc_overriding.specs.Signatures.{same_all}

-- one of these is one of those
abbrev pub share_some : List (List Ty) → List (List Ty) → Bool
share_some es fs = list_any (λ e. list_any (same_all e) fs) es

-- these, and this one, where it isn't among them
abbrev pub with_one : List (List Ty) → List Ty → List (List Ty)
with_one es e = cond (list_any (same_all e) es) es (es ++ e ∷ [])

-- .. and each of those
abbrev pub joined : List (List Ty) → List (List Ty) → List (List Ty)
joined es [] = es
joined es (f ∷ fs) = joined (with_one es f) fs
