-- Classes and type parameters with their names are those that are listed.
use Rattle.std.proofs.Common.{◌≡◌, ◌+◌, ℕ, suc, Bool, true, false, List, [], ◌∷◌, ◌++◌, slice_get, refl, sym, ap, ◌∙◌, arith, add-zero}
use Rattle.std.specs.Prelude.{cond}
use Rattle.std.proofs.lemmas.List.{map-append}
use Rattle.jc_types.specs.declared.declarations.Owner.{Owner}
use Rattle.jc_types.specs.declared.declarations.Owner.TheVariants as owner
use Rattle.jc_declares.specs.declared.heads.ClassHead.{ClassHead}
use Rattle.jc_declares.specs.declared.heads.Heads.{Heads}
use Rattle.jc_declares.specs.declared.heads.VariableHead.{VariableHead}
use Rattle.jc_declares.specs.Heads.{Named, name_in, name_of, named_classes, named_variables, same_owner, declared_of, types_of_unit, class_variables, method_variables}
use Rattle.jc_declares.specs.Making.{numbers}
use Rattle.jc_groups.specs.declared.members.Members.{Members}
use Rattle.jc_groups.specs.Groups.{group_in}
use Rattle.jc_groups.specs.Members.{AreMembers}
use Rattle.jc_scopes.specs.Entries.{class_entries, variable_name, variable_entries}

numbers-append : (xs ys : Named) → numbers (xs ++ ys) ≡ numbers xs ++ numbers ys
numbers-append [] ys = refl
numbers-append (x ∷ xs) ys = ap (λ ns. x.1 ∷ ns) (numbers-append xs ys)

next : (i k : ℕ) → i + suc k ≡ suc i + k
next i k = omega arith

one_class : (H : Heads) (b : Bool) (n : List ℕ) (i : ℕ) → name_of H i ≡ n → class_entries H (numbers (cond b ((n, i) ∷ []) [])) ≡ cond b ((n, i) ∷ []) []
one_class H true n i e = ap (λ m. (m, i) ∷ []) e
one_class H false n i e = refl

classes_entered : (H : Heads) (test : ClassHead → Bool) (i : ℕ) (cs : List ClassHead) → ((k : ℕ) → slice_get H.classes (i + k) ≡ slice_get cs k) → class_entries H (numbers (named_classes test i cs)) ≡ named_classes test i cs
classes_entered H test i [] h = refl
classes_entered H test i (c ∷ cs) h =
    ap (class_entries H) (numbers-append (cond (test c) ((c.name, i) ∷ []) []) (named_classes test (suc i) cs))
    ∙ map-append (λ n. (name_of H n, n)) (numbers (cond (test c) ((c.name, i) ∷ []) [])) (numbers (named_classes test (suc i) cs))
    ∙ ap (λ l. l ++ class_entries H (numbers (named_classes test (suc i) cs))) (one_class H (test c) c.name i (ap name_in (ap (slice_get H.classes) (sym (add-zero i)) ∙ h 0)))
    ∙ ap (λ l. cond (test c) ((c.name, i) ∷ []) [] ++ l) (classes_entered H test (suc i) cs (λ k. ap (slice_get H.classes) (sym (next i k)) ∙ h (suc k)))

one_variable : (H : Heads) (b : Bool) (n : List ℕ) (i : ℕ) → variable_name (slice_get H.variables i) ≡ n → variable_entries H (numbers (cond b ((n, i) ∷ []) [])) ≡ cond b ((n, i) ∷ []) []
one_variable H true n i e = ap (λ m. (m, i) ∷ []) e
one_variable H false n i e = refl

variables_entered : (H : Heads) (o : Owner) (i : ℕ) (vs : List VariableHead) → ((k : ℕ) → slice_get H.variables (i + k) ≡ slice_get vs k) → variable_entries H (numbers (named_variables o i vs)) ≡ named_variables o i vs
variables_entered H o i [] h = refl
variables_entered H o i (v ∷ vs) h =
    ap (variable_entries H) (numbers-append (cond (same_owner o v.owner) ((v.name, i) ∷ []) []) (named_variables o (suc i) vs))
    ∙ map-append (λ n. (variable_name (slice_get H.variables n), n)) (numbers (cond (same_owner o v.owner) ((v.name, i) ∷ []) [])) (numbers (named_variables o (suc i) vs))
    ∙ ap (λ l. l ++ variable_entries H (numbers (named_variables o (suc i) vs))) (one_variable H (same_owner o v.owner) v.name i (ap variable_name (ap (slice_get H.variables) (sym (add-zero i)) ∙ h 0)))
    ∙ ap (λ l. cond (same_owner o v.owner) ((v.name, i) ∷ []) [] ++ l) (variables_entered H o (suc i) vs (λ k. ap (slice_get H.variables) (sym (next i k)) ∙ h (suc k)))

zero_add : (k : ℕ) → 0 + k ≡ k
zero_add k = omega arith

pub tops_entered : (H : Heads) (M : Members) (u : ℕ) → AreMembers H M → class_entries H (group_in M.tops u) ≡ types_of_unit H u
tops_entered H M u m = ap (class_entries H) (m.tops u) ∙ classes_entered H _ 0 H.classes (λ k. ap (slice_get H.classes) (zero_add k))

pub types_entered : (H : Heads) (M : Members) (c : ℕ) → AreMembers H M → class_entries H (group_in M.types c) ≡ declared_of H c
types_entered H M c m = ap (class_entries H) (m.types c) ∙ classes_entered H _ 0 H.classes (λ k. ap (slice_get H.classes) (zero_add k))

pub class_variables_entered : (H : Heads) (M : Members) (c : ℕ) → AreMembers H M → variable_entries H (group_in M.class_variables c) ≡ class_variables H c
class_variables_entered H M c m = ap (variable_entries H) (m.class_variables c) ∙ variables_entered H (owner.Class (record { 0 = c })) 0 H.variables (λ k. ap (slice_get H.variables) (zero_add k))

pub method_variables_entered : (H : Heads) (M : Members) (k : ℕ) → AreMembers H M → variable_entries H (group_in M.method_variables k) ≡ method_variables H k
method_variables_entered H M k m = ap (variable_entries H) (m.method_variables k) ∙ variables_entered H (owner.Method (record { 0 = k })) 0 H.variables (λ k. ap (slice_get H.variables) (zero_add k))
