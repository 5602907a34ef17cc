-- The class of a written class type is Object, or the last of those that its name names.
use Rattle.std.proofs.Common.{◌≡◌, ◌⊎◌, inl, inr, ◌==◌, ℕ, Bool, true, false, ◌||◌, Option, Some, None, List, [], ◌∷◌, ◌++◌, map, arith, refl, sym, ap, subst, ◌∙◌}
use Rattle.std.specs.Prelude.{cond, codes}
use Rattle.std.proofs.lemmas.Bool.{or_right}
use Rattle.jc_rules.proofs.Truths.{self_equal}
use Rattle.jc_tree.specs.declared.types.ClassTree.{ClassTree, out-ClassTree, fold_out-ClassTree}
use Rattle.jc_tree.specs.declared.types.TypePart.{TypePart, out-TypePart, fold_out-TypePart}
use Rattle.jc_types.specs.declared.form.Arg.{Arg}
use Rattle.jc_types.specs.declared.form.Ty.TheVariants.{Class, Raw, Variable, outs-Class, outs-Raw, outs-Variable}
use Rattle.jc_types.specs.declared.ids.ClassId.{ClassId}
use Rattle.jc_types.specs.declared.ids.VarId.{VarId}
use Rattle.jc_types.specs.Names.{named}
use Rattle.jc_declares.specs.declared.heads.Heads.{Heads}
use Rattle.jc_declares.specs.Heads.{part_name, path_of_class, types_of_package, class_variables}
use Rattle.jc_declares.specs.Looking.{Knowledge, Look, Meaning, AClass, AVariable, has, look_up, with_parts, or_longer, in_packages, or_package, member}
use Rattle.jc_declares.specs.Knowing.{meant_class, passed, passed_or_longer, passed_in_packages, passed_all, passed_by}
use Rattle.jc_declares.specs.Readings.{head_reading}
use Rattle.jc_declares.specs.Writing.{Reading, Wrote, WroteArg, WrotePart, is_empty, name_of_part, args_in, last_args, class_type, meant_type, base_wrote, arg_wrote, class_tree_wrote, part_wrote, type_wrote, wrote_base, wrote_arg, wrote_class, wrote_part, wrote_type}
use Rattle.jc_judge.specs.Kinds.{class_of, class_at}
use Rattle.jc_judge.specs.Supers.{numbered}

-- ---- the class of what a name means

same_id : (a b : ClassId) → Some a ≡ Some b → a.0 ≡ b.0
same_id a b e = let f : a ≡ b = cc in ap (λ (i : ClassId). i.0) f

id_of : ℕ → ClassId
id_of n = record { 0 = n }

exact_class : (c b : ℕ) (args : List Arg) → class_of (Class (numbered c) args) ≡ Some (numbered b) → c ≡ b
unfolding class_of
exact_class c b args e = same_id (numbered c) (numbered b) (sym (ap class_at (outs-Class (numbered c) args)) ∙ e)

raw_class : (c b : ℕ) → class_of (Raw (numbered c)) ≡ Some (numbered b) → c ≡ b
unfolding class_of
raw_class c b e = same_id (numbered c) (numbered b) (sym (ap class_at (outs-Raw (numbered c))) ∙ e)

no_class : (v : VarId) (k : ClassId) → class_of (Variable v) ≡ Some k → ⊥
unfolding class_of
no_class v k e = let f : None ≡ Some k = sym (ap class_at (outs-Variable v)) ∙ e in cc

raw_or_not : (bare : Bool) (c b : ℕ) → class_of (cond bare (Class (numbered c) []) (Raw (numbered c))) ≡ Some (numbered b) → c ≡ b
raw_or_not true c b e = exact_class c b [] e
raw_or_not false c b e = raw_class c b e

typed_class : (H : Heads) (c b : ℕ) (args : List Arg) → class_of (class_type H c args) ≡ Some (numbered b) → c ≡ b
typed_class H c b [] e = raw_or_not (is_empty (class_variables H c)) c b e
typed_class H c b (a ∷ args) e = exact_class c b (a ∷ args) e

abbrev IsClass : Look → ℕ → Type 0
IsClass look b = look ≡ Some (AClass b ∷ [])

meant_one : (H : Heads) (look : Look) (args : List Arg) (b : ℕ) → class_of (meant_type H look args) ≡ Some (numbered b) → (b ≡ 0) ⊎ IsClass look b
meant_one H None args b e = inl (sym (exact_class 0 b [] e))
meant_one H (Some []) args b e = inl (sym (exact_class 0 b [] e))
meant_one H (Some (AClass c ∷ [])) args b e = inr (ap (λ (n : ℕ). Some (AClass n ∷ [])) (typed_class H c b args e))
meant_one H (Some (AVariable v ∷ [])) args b e = absurd (no_class (record { 0 = v }) (numbered b) e)
meant_one H (Some (AClass c ∷ n ∷ ms)) args b e = inl (sym (exact_class 0 b [] e))
meant_one H (Some (AVariable v ∷ n ∷ ms)) args b e = inl (sym (exact_class 0 b [] e))

pub wrote_class-parts : (H : Heads) (K : Knowledge) (r : Reading) (node : ClassTree)
    → wrote_class H K r node ≡ class_tree_wrote H K r (record { first = wrote_part H K r (out-ClassTree node).first; more = map (wrote_part H K r) (out-ClassTree node).more })
unfolding wrote_base wrote_arg wrote_class wrote_part wrote_type
wrote_class-parts H K r node = fold_out-ClassTree Wrote WroteArg Wrote WrotePart Wrote base_wrote arg_wrote (class_tree_wrote H K r) part_wrote type_wrote node

wrote_part-parts : (H : Heads) (K : Knowledge) (r : Reading) (node : TypePart)
    → wrote_part H K r node ≡ part_wrote (record { name = (out-TypePart node).name; args = map (wrote_arg H K r) (out-TypePart node).args })
unfolding wrote_base wrote_arg wrote_class wrote_part wrote_type
wrote_part-parts H K r node = fold_out-TypePart Wrote WroteArg Wrote WrotePart Wrote base_wrote arg_wrote (class_tree_wrote H K r) part_wrote type_wrote node

module _ (H : Heads) (K : Knowledge) (r : Reading) where
  pub name_told : (p : TypePart) → name_of_part (wrote_part H K r p) ≡ part_name p
  name_told p = ap name_of_part (wrote_part-parts H K r p)

  pub names_told : (ps : List TypePart) → map name_of_part (map (wrote_part H K r) ps) ≡ map part_name ps
  names_told [] = refl
  names_told (p ∷ ps) = ap (λ n. n ∷ map name_of_part (map (wrote_part H K r) ps)) (name_told p) ∙ ap (λ ns. part_name p ∷ ns) (names_told ps)

  -- a written class type is what its name means, with some arguments
  pub written_meant : (t : ClassTree) → (args : List Arg) × ((wrote_class H K r t).ty ≡ meant_type H (look_up H K r.find (path_of_class t).first (path_of_class t).more) args)
  written_meant t =
      let p : TypePart = (out-ClassTree t).first in
      let ps : List TypePart = (out-ClassTree t).more in
      let w : WrotePart = wrote_part H K r p in
      let ws : List WrotePart = map (wrote_part H K r) ps in
      let args : List Arg = args_in (last_args w ws) in (
        args,
        ap (λ (x : Wrote). x.ty) (wrote_class-parts H K r t)
            ∙ ap (λ n. meant_type H (look_up H K r.find n (map name_of_part ws)) args) (name_told p)
            ∙ ap (λ ns. meant_type H (look_up H K r.find (part_name p) ns) args) (names_told ps),
      )

-- ---- what a name means is the last of the classes that it names

only : (ms : List Meaning) (b : ℕ) → ms ≡ AClass b ∷ [] → has b (meant_class ms) ≡ true
only ms b e = subst (λ (m : List Meaning). has b (meant_class m) ≡ true) (sym e) (ap (λ x. x || false) (self_equal b))

module _ (H : Heads) (K : Knowledge) (b : ℕ) where
  parts_passed : (ps : List (List ℕ)) (o : Look) → IsClass (with_parts H K ps o) b → has b (passed H K ps o) ≡ true
  parts_passed [] None e = cc
  parts_passed [] (Some ms) e = only ms b (let f : ms ≡ AClass b ∷ [] = cc in f)
  parts_passed (p ∷ ps) None e = cc
  parts_passed (p ∷ ps) (Some []) e = cc
  parts_passed (p ∷ ps) (Some (AClass c ∷ [])) e = or_right (b == c) (has b (passed H K ps (member H K c p))) (parts_passed ps (member H K c p) e)
  parts_passed (p ∷ ps) (Some (AVariable v ∷ [])) e = cc
  parts_passed (p ∷ ps) (Some (AClass c ∷ n ∷ ms)) e = cc
  parts_passed (p ∷ ps) (Some (AVariable v ∷ n ∷ ms)) e = cc

  longer_passed : (ns : List (List ℕ)) (look : Look) (longer : List ℕ) (o : Option ℕ) → (IsClass look b → has b longer ≡ true) → IsClass (or_longer (with_parts H K ns) look o) b
      → has b (passed_or_longer (passed H K ns) longer o) ≡ true
  longer_passed ns look longer (Some c) f e = parts_passed ns (Some (AClass c ∷ [])) e
  longer_passed ns look longer None f e = f e

  packages_passed : (p : List ℕ) (ns : List (List ℕ)) → IsClass (in_packages H K p ns) b → has b (passed_in_packages H K p ns) ≡ true
  packages_passed p [] e = cc
  packages_passed p (n ∷ ns) e =
      longer_passed ns (in_packages H K (p ++ codes "." ++ n) ns) (passed_in_packages H K (p ++ codes "." ++ n) ns) (named n (types_of_package H p)) (packages_passed (p ++ codes "." ++ n) ns) e

  all_passed : (n : List ℕ) (ns : List (List ℕ)) (o : Look) → IsClass (or_package H K n ns o) b → has b (passed_all H K n ns o) ≡ true
  all_passed n ns None e = cc
  all_passed n ns (Some []) e = packages_passed n ns e
  all_passed n ns (Some (m ∷ ms)) e = parts_passed ns (Some (m ∷ ms)) e

-- the class of a class type in the head of a class is Object, or one that its name names
pub tree_passed : (H : Heads) (K : Knowledge) (c b : ℕ) (t : ClassTree) → class_of (wrote_class H K (head_reading H K c) t).ty ≡ Some (numbered b)
    → (b ≡ 0) ⊎ (has b (passed_by H K c (path_of_class t)) ≡ true)
tree_passed H K c b t e =
    let told = written_meant H K (head_reading H K c) t in
    elim (meant_one H _ told.0 b (sym (ap class_of told.1) ∙ e)) [
      | inl z ↦ inl z
      | inr f ↦ inr (all_passed H K b (path_of_class t).first (path_of_class t).more _ f)
    ]
