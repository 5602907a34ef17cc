-- Methods of one erasure.
use Rattle.std.proofs.Common.{◌≡◌, ◌⊎◌, ℕ, ◌==◌, Bool, true, false, not, ◌&&◌, inl, inr, List, [], ◌∷◌, refl, ap, ◌∙◌}
use Rattle.std.specs.Str.{bytes_eq}
use Rattle.jc_rules.specs.declared.rule.Place.{Place}
use Rattle.jc_types.specs.declared.declarations.ClassDecl.{ClassDecl}
use Rattle.jc_types.specs.declared.ids.ClassId.{ClassId}
use Rattle.jc_types.specs.declared.table.Table.{Table}
use Rattle.jc_types.specs.Accessors.{method_name_of}
use Rattle.jc_overriding.specs.declared.view.MethodView.{MethodView}
use Rattle.jc_overriding.specs.Overriding.{remaining}
use Rattle.jc_overriding.specs.Signatures.{subsignature}
use Rattle.jc_header_rules.specs.Checked.{IsAmong}
use Rattle.jc_header_rules.specs.Places.{broken_if}
use Rattle.jc_header_rules.specs.Clashes.{all_methods, clash_place, clashes, clashes_breaks, clashes_in, erasures_meet, is_settled, members_broken, pairs_broken}
use Rattle.jc_clashes.specs.Stage.{HasNoClash}
use Rattle.jc_clashes.specs.Constructors.{constructors_breaks}
use Rattle.jc_header_laws.specs.Facts.{ErasuresStand, IsNumber}
use Rattle.jc_header_laws.proofs.Lists.{each_unbroken, fore, not_broken, rear}

one_of : (x b y z m : Bool) → (not x && b && not y && not z && m) ≡ false → b ≡ true → m ≡ true → (x ≡ true) ⊎ ((y ≡ true) ⊎ (z ≡ true))
one_of true b y z m e p q = inl refl
one_of false b true z m e p q = inr (inl refl)
one_of false b false true m e p q = inr (inr refl)
one_of false false false false m e p q = absurd cc
one_of false true false false false e p q = absurd cc
one_of false true false false true e p q = absurd cc

module _ (T : Table) (k : ClassId) (place : Place) (members : List MethodView) where
  beside : (v w : MethodView) (ws : List MethodView) → pairs_broken T k place members v ws ≡ [] → IsAmong w ws → clashes T k members v w ≡ false
  beside v w [] e h = absurd h
  beside v w (u ∷ us) e (inl h) =
      ap (clashes T k members v) h
      ∙ not_broken (clashes T k members v u) 801 (clash_place T k place v.id u.id) (fore (broken_if (clashes T k members v u) 801 (clash_place T k place v.id u.id)) (pairs_broken T k place members v us) e)
  beside v w (u ∷ us) e (inr h) = beside v w us (rear (broken_if (clashes T k members v u) 801 (clash_place T k place v.id u.id)) (pairs_broken T k place members v us) e) h

  within : (all : List MethodView) (v w : MethodView) (vs : List MethodView) → members_broken T k place all members vs ≡ [] → IsAmong v vs → IsAmong w all → clashes T k members v w ≡ false
  within all v w [] e h g = absurd h
  within all v w (u ∷ us) e (inl h) g =
      ap (λ x. clashes T k members x w) h ∙ beside u w all (fore (pairs_broken T k place members u all) (members_broken T k place all members us) e) g
  within all v w (u ∷ us) e (inr h) g = within all v w us (rear (pairs_broken T k place members u all) (members_broken T k place all members us) e) h g

pub erasures_stand : (T : Table) → clashes_breaks T ≡ [] → (n : ℕ) (c : ClassDecl) → IsNumber 0 n c T.classes → ErasuresStand T (record { 0 = n })
erasures_stand T e n c at v w h g names meet =
    let k : ClassId = record { 0 = n } in
    let members : List MethodView = remaining T (all_methods T k) in
    one_of (v.id.0 == w.id.0) (bytes_eq (method_name_of T v.id) (method_name_of T w.id)) (subsignature T v w) (is_settled T k members v w) (erasures_meet T v.id w.id 0 T.methods)
    (within T k c.place members (all_methods T k) v w members (each_unbroken (clashes_in T) 0 n c T.classes e at) h g) names meet

-- the clashes of methods are among those of the stage
pub of_methods : (T : Table) → HasNoClash T → clashes_breaks T ≡ []
of_methods T e = fore (clashes_breaks T) (constructors_breaks T) e
