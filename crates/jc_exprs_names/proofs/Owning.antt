-- What a field breaks that a simple name finds.
use Rattle.std.proofs.Common.{◌≡◌, refl, ℕ, Bool, true, false, [], ◌∷◌, if◌then◌else◌}
use Rattle.jc_rules.specs.declared.rule.Place.{Place}
use Rattle.jc_types.specs.declared.ids.FieldId.{FieldId}
use Rattle.jc_exprs_nodes_spec.specs.Told.{breaking, unless}
use Rattle.jc_exprs_parts_spec.specs.Fields.{is_static_field}
use Rattle.jc_exprs_parts_spec.specs.Names.{instance_breaks, own_breaks}
use Rattle.jc_exprs_parts_spec.specs.Worlds.{World}

chosen : {A : Type 0} (b : Bool) (x y : A) → b ≡ true → (if b then x else y) ≡ x
chosen true x y h = refl
chosen false x y h = absurd (cc h)

other : {A : Type 0} (b : Bool) (x y : A) → b ≡ false → (if b then x else y) ≡ y
other true x y h = absurd (cc h)
other false x y h = refl

holds : (b : Bool) (rule : ℕ) (place : Place) → b ≡ true → unless b rule place ≡ []
holds true rule place h = refl
holds false rule place h = absurd (cc h)

fails : (b : Bool) (rule : ℕ) (place : Place) → b ≡ false → unless b rule place ≡ breaking rule place ∷ []
fails true rule place h = absurd (cc h)
fails false rule place h = refl

module _ (W : World) (place : Place) (f : FieldId) where
  -- a static one
  pub static_breaks : (is_own : Bool) → is_static_field W.table f ≡ true → own_breaks W place is_own f ≡ []
  static_breaks true h = chosen (is_static_field W.table f) [] (instance_breaks W.here place) h
  static_breaks false h = holds (is_static_field W.table f) 611 place h

  -- another one, of the class of the place and of one round it
  pub object_breaks : (is_own : Bool) → is_static_field W.table f ≡ false → is_own ≡ true → own_breaks W place is_own f ≡ instance_breaks W.here place
  object_breaks true h e = other (is_static_field W.table f) [] (instance_breaks W.here place) h
  object_breaks false h e = absurd (cc e)

  pub outer_breaks : (is_own : Bool) → is_static_field W.table f ≡ false → is_own ≡ false → own_breaks W place is_own f ≡ breaking 611 place ∷ []
  outer_breaks true h e = absurd (cc e)
  outer_breaks false h e = fails (is_static_field W.table f) 611 place h
