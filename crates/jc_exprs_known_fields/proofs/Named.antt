-- Constant variables by the fields that names mean.
use Rattle.std.proofs.Common.{◌≡◌, List, [], ◌∷◌, ℕ, Option, Some, None, refl, ap}
use Rattle.jc_types.specs.declared.constant.Constant.{Constant}
use Rattle.jc_types.specs.declared.ids.FieldId.{FieldId}
use Rattle.jc_exprs_parts_spec.specs.Constants.{constant_in_sense, constant_named, from_some}
use Rattle.jc_exprs_parts_spec.specs.Senses.{Sense, OfField, OfClass, OfPackage, OfNothing, next_senses, simple_sense}
use Rattle.jc_exprs_parts_spec.specs.Worlds.{World, constant_field}
use Rattle.jc_exprs_known_fields.specs.Rounds.{field_in_sense, field_named}

pub in_sense : (W : World) (s : Sense) → constant_in_sense W s ≡ from_some (field_in_sense s) (constant_field W)
in_sense W (OfField k o []) = refl
in_sense W (OfField k o (f ∷ [])) = refl
in_sense W (OfField k o (f ∷ g ∷ fs)) = refl
in_sense W (OfClass k) = refl
in_sense W (OfPackage p) = refl
in_sense W OfNothing = refl

pub by_field : (W : World) (ps : List (List ℕ)) → constant_named W ps ≡ from_some (field_named W ps) (constant_field W)
by_field W [] = refl
by_field W (n ∷ ns) = in_sense W (next_senses W (simple_sense W n) ns)

pub no_field : (W : World) (ps : List (List ℕ)) → None ≡ field_named W ps → None ≡ constant_named W ps
no_field W ps e = cc (by_field W ps, ap (λ (f : Option FieldId). from_some f (constant_field W)) e)

pub one_field : (W : World) (ps : List (List ℕ)) (f : FieldId) → Some f ≡ field_named W ps → constant_field W f ≡ constant_named W ps
one_field W ps f e = cc (by_field W ps, ap (λ (x : Option FieldId). from_some x (constant_field W)) e)

pub ruleset named_laws = (no_field, one_field)
