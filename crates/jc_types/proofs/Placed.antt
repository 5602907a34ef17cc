-- Variables of a row are found by their numbers.
use Rattle.std.proofs.Common.{◌≡◌, ℕ, zero, suc, ◌+◌, ◌<◌, ◌≤◌, ◌==◌, Bool, true, false, List, [], ◌∷◌, length, get_or, if◌then◌else◌, arith, refl, ap, ◌∙◌}
use Rattle.std.proofs.lemmas.Bool.Decides.{nat_tests}
use Rattle.jc_rules.proofs.Truths.{and_first, and_second}
use Rattle.jc_types.specs.declared.form.Ty.{Ty}
use Rattle.jc_types.specs.declared.form.Ty.TheVariants.{Variable}
use Rattle.jc_types.specs.declared.ids.VarId.{VarId}
use Rattle.jc_types.specs.Substitution.{replacement, is_row_from}

pub row_found : (n : ℕ) (vars : List VarId) (by : List Ty) (v : VarId) (i : ℕ) (d : Ty) → length vars ≡ length by → is_row_from n vars ≡ true → v.0 ≡ n + i → i < length by → replacement vars by v ≡ get_or by i d
row_found n [] [] v i d same row e lt = absurd (omega arith)
row_found n [] (t ∷ by) v i d same row e lt = absurd (omega arith)
row_found n (w ∷ vars) [] v i d same row e lt = absurd (omega arith)
row_found n (w ∷ vars) (t ∷ by) v zero d same row e lt =
    let here : (w.0 == n) ≡ true = and_first _ _ row in
    let met : (w.0 == v.0) ≡ true = grind (arith, nat_tests) in
    ap (λ (b : Bool). if b then t else replacement vars by v) met
row_found n (w ∷ vars) (t ∷ by) v (suc i) d same row e lt =
    let here : (w.0 == n) ≡ true = and_first _ _ row in
    let met : (w.0 == v.0) ≡ false = grind (arith, nat_tests) in
    ap (λ (b : Bool). if b then t else replacement vars by v) met ∙ row_found (n + 1) vars by v i d (omega arith) (and_second _ _ row) (omega arith) (omega arith)

pub row_before : (n : ℕ) (vars : List VarId) (by : List Ty) (v : VarId) → is_row_from n vars ≡ true → v.0 < n → replacement vars by v ≡ Variable v
row_before n [] by v row lt = refl
row_before n (w ∷ vars) [] v row lt = refl
row_before n (w ∷ vars) (t ∷ by) v row lt =
    let here : (w.0 == n) ≡ true = and_first _ _ row in
    let met : (w.0 == v.0) ≡ false = grind (arith, nat_tests) in
    ap (λ (b : Bool). if b then t else replacement vars by v) met ∙ row_before (n + 1) vars by v (and_second _ _ row) (omega arith)

pub row_behind : (n : ℕ) (vars : List VarId) (by : List Ty) (v : VarId) → length vars ≡ length by → is_row_from n vars ≡ true → n + length by ≤ v.0 → replacement vars by v ≡ Variable v
row_behind n [] by v same row le = refl
row_behind n (w ∷ vars) [] v same row le = refl
row_behind n (w ∷ vars) (t ∷ by) v same row le =
    let here : (w.0 == n) ≡ true = and_first _ _ row in
    let met : (w.0 == v.0) ≡ false = grind (arith, nat_tests) in
    ap (λ (b : Bool). if b then t else replacement vars by v) met ∙ row_behind (n + 1) vars by v (omega arith) (and_second _ _ row) (omega arith)
