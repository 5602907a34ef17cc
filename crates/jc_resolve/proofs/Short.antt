-- What stands beyond the shorter of two lists is put for nothing.
use Rattle.std.proofs.Common.{◌≡◌, ℕ, List, [], ◌∷◌, ◌++◌, length, map, take, min, refl, ap, ◌∙◌}
use Rattle.std.proofs.Math.Seq.{take-append_seam}
use Rattle.jc_types.specs.declared.environment.Bounds.{Bounds}
use Rattle.jc_types.specs.declared.form.Ty.{Ty}
use Rattle.jc_types.specs.declared.ids.VarId.{VarId}
use Rattle.jc_types.specs.Substitution.{subst}
use Rattle.jc_members.proofs.Short.{subst_short}

pub mapped_short : (n : ℕ) (vars : List VarId) (by : List Ty) (ts : List Ty) → n ≡ min (length vars) (length by) → map (subst (take n vars) (take n by)) ts ≡ map (subst vars by) ts
mapped_short n vars by [] e = refl
mapped_short n vars by (t ∷ ts) e = ap (λ (x : Ty). x ∷ map (subst (take n vars) (take n by)) ts) (subst_short n vars by t e) ∙ ap (λ (xs : List Ty). subst vars by t ∷ xs) (mapped_short n vars by ts e)

-- what was pushed last goes first
pub back_to : (env own : List Bounds) → take (length env) (env ++ own) ≡ env
back_to env own = take-append_seam env own
