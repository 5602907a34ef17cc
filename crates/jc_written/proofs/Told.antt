-- What a class type means, told of its tree.
use Rattle.std.proofs.Common.{◌≡◌, ℕ, Bool, Some, None, List, [], ◌∷◌, ◌++◌, map, refl, ap, ◌∙◌}
use Rattle.std.specs.Prelude.{cond}
use Rattle.jc_tree.specs.declared.types.ClassTree.{ClassTree, out-ClassTree}
use Rattle.jc_tree.specs.declared.types.TypeArg.{TypeArg}
use Rattle.jc_tree.specs.declared.types.TypePart.{TypePart, out-TypePart}
use Rattle.jc_types.specs.declared.form.Arg.{Arg}
use Rattle.jc_declares.specs.declared.heads.Heads.{Heads}
use Rattle.jc_declares.specs.Heads.{part_name, path_of_class}
use Rattle.jc_declares.specs.Looking.{Knowledge, Look, AClass, AVariable, look_up, all_accessible}
use Rattle.jc_declares.specs.Knowing.{passed_all}
use Rattle.jc_declares.specs.Writing.{Reading, Wrote, WroteArg, WrotePart, Broken, is_empty, name_of_part, last_args, early_args, part_broken, arg_broken, arg_places, args_in, if_accessible, meaning_broken, meant_type, is_class_meant, wrote_arg, wrote_part, wrote_class}
use Rattle.jc_written.specs.Trees.{args_in_part, last_in, early_in, args_rules, parts_rules, class_rules, args_meant, args_placed, sight_type, sight_places}
use Rattle.jc_looking.specs.Sights.{seen}
use Rattle.jc_written.proofs.WrotesByParts.{wrote_class-parts, wrote_part-parts}

empty_mapped : {X Y : Type 0} (f : X → Y) (xs : List X) → is_empty (map f xs) ≡ is_empty xs
empty_mapped f [] = refl
empty_mapped f (x ∷ xs) = refl

type_sighted : (H : Heads) (look : Look) (args : List Arg) → meant_type H look args ≡ sight_type H (seen look) args
type_sighted H None args = refl
type_sighted H (Some []) args = refl
type_sighted H (Some (AClass c ∷ [])) args = refl
type_sighted H (Some (AVariable v ∷ [])) args = refl
type_sighted H (Some (AClass c ∷ n ∷ ms)) args = refl
type_sighted H (Some (AVariable v ∷ n ∷ ms)) args = refl

places_sighted : (look : Look) (at : ℕ) (places : List ℕ) → cond (is_class_meant look) (at ∷ places) [] ≡ sight_places (seen look) at places
places_sighted None at places = refl
places_sighted (Some []) at places = refl
places_sighted (Some (AClass c ∷ [])) at places = refl
places_sighted (Some (AVariable v ∷ [])) at places = refl
places_sighted (Some (AClass c ∷ n ∷ ms)) at places = refl
places_sighted (Some (AVariable v ∷ n ∷ ms)) at places = refl

module _ (H : Heads) (K : Knowledge) (r : Reading) where
  wp : TypePart → WrotePart
  wp p = wrote_part H K r p

  args_told : (p : TypePart) → (wrote_part H K r p).args ≡ map (wrote_arg H K r) (args_in_part p)
  args_told p = ap (λ (w : WrotePart). w.args) (wrote_part-parts H K r p)

  name_told : (p : TypePart) → name_of_part (wrote_part H K r p) ≡ part_name p
  name_told p = ap name_of_part (wrote_part-parts H K r p)

  at_told : (p : TypePart) → (wrote_part H K r p).name.at ≡ (out-TypePart p).name.at
  at_told p = ap (λ (w : WrotePart). w.name.at) (wrote_part-parts H K r p)

  names_told : (ps : List TypePart) → map name_of_part (map (wrote_part H K r) ps) ≡ map part_name ps
  names_told [] = refl
  names_told (p ∷ ps) = ap (λ n. n ∷ map name_of_part (map (wrote_part H K r) ps)) (name_told p) ∙ ap (λ ns. part_name p ∷ ns) (names_told ps)

  last_told : (p : TypePart) (ps : List TypePart) → last_args (wrote_part H K r p) (map (wrote_part H K r) ps) ≡ map (wrote_arg H K r) (last_in p ps)
  last_told p [] = args_told p
  last_told p (q ∷ qs) = last_told q qs

  early_told : (p : TypePart) (ps : List TypePart) → early_args (wrote_part H K r p) (map (wrote_part H K r) ps) ≡ early_in p ps
  early_told p [] = refl
  early_told p (q ∷ qs) =
      ap (λ (w : WrotePart). cond (is_empty w.args) [] ((let b : Broken = record { rule = 302; at = w.name.at } in b) ∷ []) ++ early_args (wrote_part H K r q) (map (wrote_part H K r) qs)) (wrote_part-parts H K r p)
      ∙ ap (λ (b : Bool). cond b [] ((let b : Broken = record { rule = 302; at = (out-TypePart p).name.at } in b) ∷ []) ++ early_args (wrote_part H K r q) (map (wrote_part H K r) qs)) (empty_mapped (wrote_arg H K r) (args_in_part p))
      ∙ ap (λ (bs : List Broken). cond (is_empty (args_in_part p)) [] ((let b : Broken = record { rule = 302; at = (out-TypePart p).name.at } in b) ∷ []) ++ bs) (early_told q qs)

  arg_broken_told : (args : List TypeArg) → arg_broken (map (wrote_arg H K r) args) ≡ args_rules H K r args
  arg_broken_told [] = refl
  arg_broken_told (a ∷ args) = ap (λ (bs : List Broken). (wrote_arg H K r a).broken ++ bs) (arg_broken_told args)

  part_broken_told : (ps : List TypePart) → part_broken (map (wrote_part H K r) ps) ≡ parts_rules H K r ps
  part_broken_told [] = refl
  part_broken_told (p ∷ ps) =
      ap (λ (xs : List WroteArg). arg_broken xs ++ part_broken (map (wrote_part H K r) ps)) (args_told p)
      ∙ ap (λ (bs : List Broken). bs ++ part_broken (map (wrote_part H K r) ps)) (arg_broken_told (args_in_part p))
      ∙ ap (λ (bs : List Broken). args_rules H K r (args_in_part p) ++ bs) (part_broken_told ps)

  args_meant_told : (args : List TypeArg) → args_in (map (wrote_arg H K r) args) ≡ args_meant H K r args
  args_meant_told [] = refl
  args_meant_told (a ∷ args) = ap (λ (bs : List Arg). (wrote_arg H K r a).arg ∷ bs) (args_meant_told args)

  args_placed_told : (args : List TypeArg) → arg_places (map (wrote_arg H K r) args) ≡ args_placed H K r args
  args_placed_told [] = refl
  args_placed_told (a ∷ args) = ap (λ (ns : List ℕ). (wrote_arg H K r a).places ++ ns) (args_placed_told args)

  pub class_ty_told : (t : ClassTree) → (wrote_class H K r t).ty ≡ sight_type H (seen (look_up H K r.find (path_of_class t).first (path_of_class t).more)) (args_meant H K r (last_in (out-ClassTree t).first (out-ClassTree t).more))
  class_ty_told t =
      let p : TypePart = (out-ClassTree t).first in
      let ps : List TypePart = (out-ClassTree t).more in
      let w : WrotePart = wrote_part H K r p in
      let ws : List WrotePart = map (wrote_part H K r) ps in
      ap (λ (x : Wrote). x.ty) (wrote_class-parts H K r t)
      ∙ ap (λ n. meant_type H (look_up H K r.find n (map name_of_part ws)) (args_in (last_args w ws))) (name_told p)
      ∙ ap (λ ns. meant_type H (look_up H K r.find (part_name p) ns) (args_in (last_args w ws))) (names_told ps)
      ∙ ap (λ (xs : List WroteArg). meant_type H (look_up H K r.find (part_name p) (map part_name ps)) (args_in xs)) (last_told p ps)
      ∙ ap (λ (ts : List Arg). meant_type H (look_up H K r.find (part_name p) (map part_name ps)) ts) (args_meant_told (last_in p ps))
      ∙ type_sighted H (look_up H K r.find (part_name p) (map part_name ps)) (args_meant H K r (last_in p ps))

  pub class_places_told : (t : ClassTree) → (wrote_class H K r t).places ≡ sight_places (seen (look_up H K r.find (path_of_class t).first (path_of_class t).more)) (out-TypePart (out-ClassTree t).first).name.at (args_placed H K r (last_in (out-ClassTree t).first (out-ClassTree t).more))
  class_places_told t =
      let p : TypePart = (out-ClassTree t).first in
      let ps : List TypePart = (out-ClassTree t).more in
      let w : WrotePart = wrote_part H K r p in
      let ws : List WrotePart = map (wrote_part H K r) ps in
      ap (λ (x : Wrote). x.places) (wrote_class-parts H K r t)
      ∙ ap (λ n. cond (is_class_meant (look_up H K r.find n (map name_of_part ws))) (w.name.at ∷ arg_places (last_args w ws)) []) (name_told p)
      ∙ ap (λ ns. cond (is_class_meant (look_up H K r.find (part_name p) ns)) (w.name.at ∷ arg_places (last_args w ws)) []) (names_told ps)
      ∙ ap (λ (xs : List WroteArg). cond (is_class_meant (look_up H K r.find (part_name p) (map part_name ps))) (w.name.at ∷ arg_places xs) []) (last_told p ps)
      ∙ ap (λ (ns : List ℕ). cond (is_class_meant (look_up H K r.find (part_name p) (map part_name ps))) (w.name.at ∷ ns) []) (args_placed_told (last_in p ps))
      ∙ ap (λ at. cond (is_class_meant (look_up H K r.find (part_name p) (map part_name ps))) (at ∷ args_placed H K r (last_in p ps)) []) (at_told p)
      ∙ places_sighted (look_up H K r.find (part_name p) (map part_name ps)) (out-TypePart p).name.at (args_placed H K r (last_in p ps))

  name_rule : List ℕ → List (List ℕ) → Bool → ℕ → List Broken
  name_rule n ns b at =
      if_accessible (all_accessible H r.asker (passed_all H K n ns (r.find n))) (meaning_broken H r (look_up H K r.find n ns) b at) at

  pub class_broken_told : (t : ClassTree) → (wrote_class H K r t).broken ≡ class_rules H K r t
  unfolding name_rule
  class_broken_told t =
      let p : TypePart = (out-ClassTree t).first in
      let ps : List TypePart = (out-ClassTree t).more in
      let w : WrotePart = wrote_part H K r p in
      let ws : List WrotePart = map (wrote_part H K r) ps in
      let parts : List Broken = part_broken (w ∷ ws) in
      ap (λ (x : Wrote). x.broken) (wrote_class-parts H K r t)
      ∙ ap (λ n. name_rule n (map name_of_part ws) (is_empty (last_args w ws)) w.name.at ++ early_args w ws ++ parts) (name_told p)
      ∙ ap (λ ns. name_rule (part_name p) ns (is_empty (last_args w ws)) w.name.at ++ early_args w ws ++ parts) (names_told ps)
      ∙ ap (λ (xs : List WroteArg). name_rule (part_name p) (map part_name ps) (is_empty xs) w.name.at ++ early_args w ws ++ parts) (last_told p ps)
      ∙ ap (λ b. name_rule (part_name p) (map part_name ps) b w.name.at ++ early_args w ws ++ parts) (empty_mapped (wrote_arg H K r) (last_in p ps))
      ∙ ap (λ at. name_rule (part_name p) (map part_name ps) (is_empty (last_in p ps)) at ++ early_args w ws ++ parts) (at_told p)
      ∙ ap (λ (bs : List Broken). name_rule (part_name p) (map part_name ps) (is_empty (last_in p ps)) (out-TypePart p).name.at ++ bs ++ parts) (early_told p ps)
      ∙ ap (λ (bs : List Broken). name_rule (part_name p) (map part_name ps) (is_empty (last_in p ps)) (out-TypePart p).name.at ++ early_in p ps ++ bs) (part_broken_told (p ∷ ps))

pub ruleset class_told = (class_ty_told, class_places_told)
