-- The parameters of a class are numbered upwards, and so distinct.
use Rattle.std.proofs.Common.{◌≡◌, ◌⊎◌, inl, inr, ◌≤◌, ℕ, zero, suc, Bool, true, false, List, [], ◌∷◌, ◌++◌, slice_get, arith, ap}
use Rattle.std.specs.Prelude.{cond}
use Rattle.jc_types.specs.declared.declarations.ClassDecl.{ClassDecl}
use Rattle.jc_types.specs.declared.declarations.Owner.{Owner}
use Rattle.jc_types.specs.declared.declarations.Owner.TheVariants as owner
use Rattle.jc_types.specs.declared.ids.ClassId.{ClassId}
use Rattle.jc_types.specs.declared.ids.VarId.{VarId}
use Rattle.jc_types.specs.Accessors.{vars_in, vars_of}
use Rattle.jc_header_rules.specs.Checked.{AreDistinct, IsAmong}
use Rattle.jc_declares.specs.declared.heads.VariableHead.{VariableHead}
use Rattle.jc_declares.specs.Heads.{Named, heads_of, named_variables, same_owner}
use Rattle.jc_declares.specs.Knowing.{known}
use Rattle.jc_declares.specs.Making.{class_decl, numbered, table_of, variable_ids}
use Rattle.jc_declares.specs.Sites.{ClassSite, Sites}

id_apart : (b : Bool) (n : List ℕ) (i : ℕ) (v : VarId) (rest : Named) → IsAmong v (variable_ids (cond b ((n, i) ∷ []) [] ++ rest)) → (v ≡ record { 0 = i }) ⊎ IsAmong v (variable_ids rest)
id_apart true n i v rest (inl e) = inl e
id_apart true n i v rest (inr m) = inr m
id_apart false n i v rest m = inr m

first_is : (v : VarId) (i : ℕ) → v ≡ record { 0 = i } → i ≤ v.0
first_is v i e = let g : v.0 ≡ i = ap (λ (w : VarId). w.0) e in omega (arith, g)

lower : (i n : ℕ) → suc i ≤ n → i ≤ n
lower i n l = omega (arith, l)

lowest : (o : Owner) (i : ℕ) (vs : List VariableHead) (v : VarId) → IsAmong v (variable_ids (named_variables o i vs)) → i ≤ v.0
lowest o i [] v m = absurd m
lowest o i (x ∷ vs) v m =
    elim (id_apart (same_owner o x.owner) x.name i v (named_variables o (suc i) vs) m) [
      | inl e ↦ first_is v i e
      | inr n ↦ lower i v.0 (lowest o (suc i) vs v n)
    ]

not_below : (i : ℕ) → suc i ≤ i → ⊥
not_below i l = omega (arith, l)

distinct_entry : (b : Bool) (n : List ℕ) (i : ℕ) (rest : Named) → ((v : VarId) → IsAmong v (variable_ids rest) → suc i ≤ v.0) → AreDistinct (variable_ids rest)
    → AreDistinct (variable_ids (cond b ((n, i) ∷ []) [] ++ rest))
distinct_entry true n i rest f d = ((λ m. not_below i (f (record { 0 = i }) m)), d)
distinct_entry false n i rest f d = d

distinct_from : (o : Owner) (i : ℕ) (vs : List VariableHead) → AreDistinct (variable_ids (named_variables o i vs))
distinct_from o i [] = tt
distinct_from o i (x ∷ vs) = distinct_entry (same_owner o x.owner) x.name i (named_variables o (suc i) vs) (lowest o (suc i) vs) (distinct_from o (suc i) vs)

of_each_class : (f : ℕ → ClassSite → ClassDecl) → ((k : ℕ) (s : ClassSite) → AreDistinct (f k s).vars) → (i : ℕ) (ss : List ClassSite) (n : ℕ) → AreDistinct (vars_in (slice_get (numbered f i ss) n))
of_each_class f g i [] zero = tt
of_each_class f g i [] (suc n) = tt
of_each_class f g i (s ∷ ss) zero = g i s
of_each_class f g i (s ∷ ss) (suc n) = of_each_class f g (suc i) ss n

pub parameters_distinct : (S : Sites) (id : ClassId) → AreDistinct (vars_of (table_of S) id)
parameters_distinct S id =
    of_each_class (class_decl (heads_of S) (known (heads_of S))) (λ k s. distinct_from (owner.Class (record { 0 = k })) 0 (heads_of S).variables) 0 S.classes id.0
