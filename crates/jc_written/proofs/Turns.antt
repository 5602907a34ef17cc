-- Steps of the walk over class types.
use Rattle.std.proofs.Common.{◌≡◌, ◌+◌, ◌<◌, ℕ, Bool, Option, List, [], ◌∷◌, ◌++◌, drop, length, get_or, map, arith, zero, suc, append_assoc, sym, ap, ◌∙◌}
use Rattle.std.proofs.lemmas.List.{map-append}
use Rattle.jc_rules.specs.declared.rule.Refusal.{Refusal}
use Rattle.jc_rules.specs.declared.rule.Place.{Place}
use Rattle.jc_tree.specs.declared.types.ClassTree.{ClassTree, out-ClassTree}
use Rattle.jc_tree.specs.declared.types.TypeArg.{TypeArg}
use Rattle.jc_tree.specs.declared.types.TypePart.{TypePart, out-TypePart}
use Rattle.jc_types.specs.Breaks.{least}
use Rattle.jc_types.specs.declared.form.Arg.{Arg}
use Rattle.jc_types.proofs.Least.{least_append}
use Rattle.jc_declares.specs.declared.heads.Heads.{Heads}
use Rattle.jc_declares.specs.declared.heads.Path.{Path}
use Rattle.jc_declares.specs.Heads.{path_of_class}
use Rattle.jc_declares.specs.Looking.{Knowledge}
use Rattle.jc_declares.specs.Writing.{Reading, Broken, is_empty, wrote_arg, wrote_class}
use Rattle.jc_declares.specs.Breaks.{in_file}
use Rattle.jc_written.specs.Trees.{args_in_part, last_in, early_in, args_rules, parts_rules, name_rules, args_meant, args_placed}
use Rattle.jc_written.proofs.Counting.{in_file-append, first_left, turn}
use Rattle.jc_written.proofs.Told.{class_broken_told}

module _ (H : Heads) (K : Knowledge) (r : Reading) (file : ℕ) where
  pub args_turn : (found next : Option Refusal) (xs : List TypeArg) (i : ℕ) (a : TypeArg) → i < length xs → a ≡ get_or xs i a → next ≡ least found (in_file file (wrote_arg H K r a).broken)
      → least next (in_file file (args_rules H K r (drop (i + 1) xs))) ≡ least found (in_file file (args_rules H K r (drop i xs)))
  args_turn = turn (λ (l : List TypeArg). in_file file (args_rules H K r l)) (λ (a : TypeArg). in_file file (wrote_arg H K r a).broken) (λ a l. in_file-append file (wrote_arg H K r a).broken (args_rules H K r l))

  pub parts_turn : (found next : Option Refusal) (xs : List TypePart) (i : ℕ) (p : TypePart) → i < length xs → p ≡ get_or xs i p → next ≡ least found (in_file file (args_rules H K r (args_in_part p)))
      → least next (in_file file (parts_rules H K r (drop (i + 1) xs))) ≡ least found (in_file file (parts_rules H K r (drop i xs)))
  parts_turn = turn (λ (l : List TypePart). in_file file (parts_rules H K r l)) (λ (p : TypePart). in_file file (args_rules H K r (args_in_part p))) (λ p l. in_file-append file (args_rules H K r (args_in_part p)) (parts_rules H K r l))

  pub class_whole : (t : ClassTree) (path : Path) (at : ℕ) (without : Bool) (xs : List TypeArg) (ys : List TypePart) (a b c d e : Option Refusal)
      → path ≡ path_of_class t → at ≡ (out-TypePart (out-ClassTree t).first).name.at → without ≡ is_empty (last_in (out-ClassTree t).first (out-ClassTree t).more)
      → xs ≡ args_in_part (out-ClassTree t).first → ys ≡ (out-ClassTree t).more
      → b ≡ least a (in_file file (name_rules H K r path without at)) → c ≡ least b (in_file file (early_in (out-ClassTree t).first (out-ClassTree t).more))
      → d ≡ least c (in_file file (args_rules H K r xs)) → e ≡ least d (in_file file (parts_rules H K r ys))
      → e ≡ least a (in_file file (wrote_class H K r t).broken)
  class_whole t path at without xs ys a b c d e ep ea ew ex ey eb ec ed ee =
      let p : TypePart = (out-ClassTree t).first in
      let ps : List TypePart = (out-ClassTree t).more in
      let names : List Broken = name_rules H K r (path_of_class t) (is_empty (last_in p ps)) (out-TypePart p).name.at in
      let early : List Broken = early_in p ps in
      let first : List Broken = args_rules H K r (args_in_part p) in
      let more : List Broken = parts_rules H K r ps in
      ee ∙ ap (λ (l : List TypePart). least d (in_file file (parts_rules H K r l))) ey
      ∙ ap (λ x. least x (in_file file more)) (ed ∙ ap (λ (l : List TypeArg). least c (in_file file (args_rules H K r l))) ex)
      ∙ sym (least_append c (in_file file first) (in_file file more))
      ∙ ap (least c) (sym (in_file-append file first more))
      ∙ ap (λ x. least x (in_file file (first ++ more))) ec
      ∙ ap (λ x. least (least x (in_file file early)) (in_file file (first ++ more)))
      (eb ∙ ap (λ (q : Path). least a (in_file file (name_rules H K r q without at))) ep ∙ ap (λ w. least a (in_file file (name_rules H K r (path_of_class t) w at))) ew
      ∙ ap (λ n. least a (in_file file (name_rules H K r (path_of_class t) (is_empty (last_in p ps)) n))) ea)
      ∙ ap (λ x. least x (in_file file (first ++ more))) (sym (least_append a (in_file file names) (in_file file early)) ∙ ap (least a) (sym (in_file-append file names early)))
      ∙ sym (least_append a (in_file file (names ++ early)) (in_file file (first ++ more)))
      ∙ ap (least a) (sym (in_file-append file (names ++ early) (first ++ more)))
      ∙ ap (λ (l : List Broken). least a (in_file file l)) (sym (class_broken_told H K r t))

  -- arguments that are meant, and their places
  pub meant_turn : (old new : List Arg) (xs : List TypeArg) (i : ℕ) (a : TypeArg) (arg : Arg) → i < length xs → a ≡ get_or xs i a → arg ≡ (wrote_arg H K r a).arg → new ≡ old ++ arg ∷ []
      → new ++ args_meant H K r (drop (i + 1) xs) ≡ old ++ args_meant H K r (drop i xs)
  meant_turn old new xs i a arg within is e f =
      ap (λ (l : List Arg). l ++ args_meant H K r (drop (i + 1) xs)) (f ∙ ap (λ (x : Arg). old ++ x ∷ []) e)
      ∙ append_assoc old ((wrote_arg H K r a).arg ∷ []) (args_meant H K r (drop (i + 1) xs))
      ∙ ap (λ (l : List TypeArg). old ++ args_meant H K r l) (sym (first_left xs i a within is))

  pub placed_turn : (f : ℕ → Place) (old new : List Place) (xs : List TypeArg) (i : ℕ) (a : TypeArg) → i < length xs → a ≡ get_or xs i a → new ≡ old ++ map f (wrote_arg H K r a).places
      → new ++ map f (args_placed H K r (drop (i + 1) xs)) ≡ old ++ map f (args_placed H K r (drop i xs))
  placed_turn f old new xs i a within is e =
      ap (λ (l : List Place). l ++ map f (args_placed H K r (drop (i + 1) xs))) e
      ∙ append_assoc old (map f (wrote_arg H K r a).places) (map f (args_placed H K r (drop (i + 1) xs)))
      ∙ ap (λ (l : List Place). old ++ l) (sym (map-append f (wrote_arg H K r a).places (args_placed H K r (drop (i + 1) xs))))
      ∙ ap (λ (l : List TypeArg). old ++ map f (args_placed H K r l)) (sym (first_left xs i a within is))

-- the last part, by its place
pub last_at : (p q : TypePart) (ps : List TypePart) (k : ℕ) → k + 1 ≡ length ps → q ≡ get_or ps k q → args_in_part q ≡ last_in p ps
last_at p q [] k e is = absurd (none k e)
  where
    none : (k : ℕ) → k + 1 ≡ 0 → ⊥
    none k e = omega arith
last_at p q (x ∷ []) zero e is = ap args_in_part is
last_at p q (x ∷ []) (suc k) e is = absurd (none k e)
  where
    none : (k : ℕ) → suc k + 1 ≡ 1 → ⊥
    none k e = omega arith
last_at p q (x ∷ y ∷ ps) zero e is = absurd (none (length ps) e)
  where
    none : (n : ℕ) → 0 + 1 ≡ suc (suc n) → ⊥
    none n e = omega arith
last_at p q (x ∷ y ∷ ps) (suc k) e is = last_at x q (y ∷ ps) k (less k (length ps) e) is
  where
    less : (k n : ℕ) → suc k + 1 ≡ suc (suc n) → k + 1 ≡ suc n
    less k n e = omega arith
