-- One method's group more.
use Rattle.std.proofs.Common.{◌≡◌, ℕ, suc, ◌+◌, ◌-◌, ◌<◌, arith, List, [], ◌∷◌, ◌++◌, add-one, refl, sym, ap, ◌∙◌}
use Rattle.jc_types.specs.declared.ids.MethodId.{MethodId}
use Rattle.jc_types.specs.declared.table.Table.{Table}
use Rattle.jc_types.specs.Accessors.{method_name_of}
use Rattle.jc_members.specs.Named.{all_named}
use Rattle.jc_clashes.specs.declared.shapes.Shape.{Shape}
use Rattle.jc_clashes.specs.Shapes.{group_of, groups_from}

assoc : (xs ys zs : List (List Shape)) → (xs ++ ys) ++ zs ≡ xs ++ (ys ++ zs)
assoc [] ys zs = refl
assoc (x ∷ xs) ys zs = ap (λ l. x ∷ l) (assoc xs ys zs)

abbrev own_group : Table → ℕ → List (List Shape)
own_group T i = group_of T (record { 0 = i }) (all_named T (method_name_of T (record { 0 = i })))

turn : (T : Table) (i n : ℕ) → i < n → groups_from T i (n - i) ≡ own_group T i ++ groups_from T (i + 1) (n - (i + 1))
turn T i n lt =
    let count : n - i ≡ suc (n - (i + 1)) = omega arith in
    ap (groups_from T i) count ∙ ap (λ j. own_group T i ++ groups_from T j (n - (i + 1))) (sym (add-one i))

pub group_on : (T : Table) (i n : ℕ) (out more whole : List (List Shape)) (ids : List MethodId) → i < n → more ≡ out ++ group_of T (record { 0 = i }) ids → ids ≡ all_named T (method_name_of T (record { 0 = i }))
    → out ++ groups_from T i (n - i) ≡ whole → more ++ groups_from T (i + 1) (n - (i + 1)) ≡ whole
group_on T i n out more whole ids lt e named f =
    ap (λ l. l ++ groups_from T (i + 1) (n - (i + 1))) (e ∙ ap (λ js. out ++ group_of T (record { 0 = i }) js) named) ∙ assoc out (own_group T i) (groups_from T (i + 1) (n - (i + 1)))
    ∙ ap (λ l. out ++ l) (sym (turn T i n lt)) ∙ f
