-- What is picked for a space is what the declarations name there.
use Rattle.std.proofs.Common.{◌≡◌, ◌++◌, ℕ, suc, List, [], ◌∷◌, replicate, refl, ap, ◌∙◌}
use Rattle.std.specs.Prelude.{cond, ◌==◌}
use Rattle.jc_types.specs.declared.declarations.Owner.{Owner}
use Rattle.jc_types.specs.declared.declarations.Owner.TheVariants as owner
use Rattle.jc_types.specs.Names.{named}
use Rattle.jc_declares.specs.declared.heads.ClassHead.{ClassHead}
use Rattle.jc_declares.specs.declared.heads.VariableHead.{VariableHead}
use Rattle.jc_declares.specs.Heads.{Named, named_classes, is_inside, is_top, same_owner, named_variables}
use Rattle.std.specs.Prelude.{◌&&◌}
use Rattle.jc_name_index.specs.Spaces.{Noting, space_named, noted_all, picked, picked_as}
use Rattle.jc_name_index.specs.Index.{inside_first, as_member, outside_all, as_top, of_class, of_method, as_class_variable, as_method_variable}
use Rattle.jc_name_index.proofs.SpacesNoted.{or_next, all_named, empty_space}

member_picked : (c i : ℕ) (round name : List ℕ) → picked_as c (inside_first round name) i ≡ cond (is_inside c round) ((name, i) ∷ []) []
member_picked c i [] name = refl
member_picked c i (d ∷ round) name = refl

pub members_picked : (c i : ℕ) (cs : List ClassHead) → picked as_member c i cs ≡ named_classes (λ (d : ClassHead). is_inside c d.round) i cs
members_picked c i [] = refl
members_picked c i (d ∷ cs) =
    ap (λ (l : Named). l ++ picked as_member c (suc i) cs) (member_picked c i d.round d.name)
    ∙ ap (λ (l : Named). cond (is_inside c d.round) ((d.name, i) ∷ []) [] ++ l) (members_picked c (suc i) cs)

top_picked : (u i : ℕ) (round : List ℕ) (unit : ℕ) (name : List ℕ) → picked_as u (outside_all round unit name) i ≡ cond (is_top round && (u == unit)) ((name, i) ∷ []) []
top_picked u i [] unit name = refl
top_picked u i (d ∷ round) unit name = refl

pub tops_picked : (u i : ℕ) (cs : List ClassHead) → picked as_top u i cs ≡ named_classes (λ (c : ClassHead). is_top c.round && (u == c.unit)) i cs
tops_picked u i [] = refl
tops_picked u i (d ∷ cs) =
    ap (λ (l : Named). l ++ picked as_top u (suc i) cs) (top_picked u i d.round d.unit d.name)
    ∙ ap (λ (l : Named). cond (is_top d.round && (u == d.unit)) ((d.name, i) ∷ []) [] ++ l) (tops_picked u (suc i) cs)

class_picked : (c i : ℕ) (o : Owner) (name : List ℕ) → picked_as c (of_class o name) i ≡ cond (same_owner (owner.Class (record { 0 = c })) o) ((name, i) ∷ []) []
class_picked c i (owner.Class d) name = refl
class_picked c i (owner.Method m) name = refl

pub class_variables_picked : (c i : ℕ) (vs : List VariableHead) → picked as_class_variable c i vs ≡ named_variables (owner.Class (record { 0 = c })) i vs
class_variables_picked c i [] = refl
class_variables_picked c i (v ∷ vs) =
    ap (λ (l : Named). l ++ picked as_class_variable c (suc i) vs) (class_picked c i v.owner v.name)
    ∙ ap (λ (l : Named). cond (same_owner (owner.Class (record { 0 = c })) v.owner) ((v.name, i) ∷ []) [] ++ l) (class_variables_picked c (suc i) vs)

method_picked : (m i : ℕ) (o : Owner) (name : List ℕ) → picked_as m (of_method o name) i ≡ cond (same_owner (owner.Method (record { 0 = m })) o) ((name, i) ∷ []) []
method_picked m i (owner.Class d) name = refl
method_picked m i (owner.Method n) name = refl

pub method_variables_picked : (m i : ℕ) (vs : List VariableHead) → picked as_method_variable m i vs ≡ named_variables (owner.Method (record { 0 = m })) i vs
method_variables_picked m i [] = refl
method_variables_picked m i (v ∷ vs) =
    ap (λ (l : Named). l ++ picked as_method_variable m (suc i) vs) (method_picked m i v.owner v.name)
    ∙ ap (λ (l : Named). cond (same_owner (owner.Method (record { 0 = m })) v.owner) ((v.name, i) ∷ []) [] ++ l) (method_variables_picked m (suc i) vs)

-- ---- from spaces without a name

pub from_empty : {X : Type 0} (f : Noting X) (xs : List X) (k s : ℕ) (n : List ℕ) → space_named (noted_all f 0 xs (replicate k [])) s n ≡ named n (picked f s 0 xs)
from_empty f xs k s n = all_named f xs 0 (replicate k []) s n ∙ ap (λ o. or_next o (named n (picked f s 0 xs))) (empty_space k s n)

-- in spaces that began without a name and are noted so
pub noted_from_empty : {X : Type 0} (f : Noting X) (xs ys : List X) (empty all : List Named) (k : ℕ) → xs ≡ ys → empty ≡ replicate k [] → all ≡ noted_all f 0 xs empty → (s : ℕ) (n : List ℕ)
    → space_named all s n ≡ named n (picked f s 0 ys)
noted_from_empty f xs ys empty all k ex ee ea s n =
    ap (λ t. space_named t s n) (ea ∙ ap (noted_all f 0 xs) ee) ∙ from_empty f xs k s n ∙ ap (λ zs. named n (picked f s 0 zs)) ex
