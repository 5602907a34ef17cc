-- Signatures with other numbers of parameters.
use Rattle.std.proofs.Common.{◌≡◌, ◌≢◌, ◌==◌, false, ◌&&◌, ◌||◌, List, [], ◌∷◌, map, length, arith, refl, ap, ◌∙◌}
use Rattle.jc_rules.proofs.Truths.{and_none}
use Rattle.jc_types.specs.declared.form.Ty.{Ty}
use Rattle.jc_types.specs.declared.table.Table.{Table}
use Rattle.jc_types.specs.Sameness.{same}
use Rattle.jc_overriding.specs.declared.view.MethodView.{MethodView}
use Rattle.jc_overriding.specs.Signatures.{adapted, erased_in, has_no_variables, same_all, same_lists, same_name, same_signature, is_erasure, subsignature}

not_same : (f : Ty → Ty) (ss ts : List Ty) → length ss ≢ length ts → same_all ss (map f ts) ≡ false
not_same f [] [] ne = absurd (ne refl)
not_same f [] (t ∷ ts) ne = refl
not_same f (s ∷ ss) [] ne = refl
not_same f (s ∷ ss) (t ∷ ts) ne = ap (λ b. same s (f t) && b) (not_same f ss ts (λ e. ne (omega arith))) ∙ and_none (same s (f t))

pub no_subsignature : (T : Table) (a b : MethodView) → length a.params ≢ length b.params → subsignature T a b ≡ false
no_subsignature T a b ne =
    let first : same_signature a b ≡ false =
    ap (λ c. ((length a.vars == length b.vars) && same_lists a.bounds (map (map (adapted a b)) b.bounds)) && c) (not_same (adapted a b) a.params b.params ne)
    ∙ and_none ((length a.vars == length b.vars) && same_lists a.bounds (map (map (adapted a b)) b.bounds)) in
    let second : is_erasure T a b ≡ false = ap (λ c. has_no_variables a && c) (not_same (erased_in T b) a.params b.params ne) ∙ and_none (has_no_variables a) in
    ap (λ c. same_name T a b && c) (ap (λ c. c || is_erasure T a b) first ∙ second) ∙ and_none (same_name T a b)
