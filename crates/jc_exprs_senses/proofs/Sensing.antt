-- What names mean by the fields of classes, and by what is seen of them.
use Rattle.std.proofs.Common.{◌≡◌, refl, sym, ℕ, Bool, false, List, [], ◌∷◌, Option, None, Some}
use Rattle.jc_types.specs.declared.ids.ClassId.{ClassId}
use Rattle.jc_types.specs.declared.ids.FieldId.{FieldId}
use Rattle.jc_declares.specs.Looking.{Look, AClass, AVariable, member}
use Rattle.jc_looking.specs.Sights.{seen}
use Rattle.jc_exprs_parts_spec.specs.Senses.{Sense, field_or_member, sense_of_fields, sense_of_look, sense_of_member}
use Rattle.jc_exprs_parts_spec.specs.Worlds.{World}
use Rattle.jc_exprs_senses.specs.Sensed.{member_of_sight, sense_of_sight}

-- ---- fields

pub found_sense : (k : ClassId) (o : Bool) (fs : List FieldId) (further : Option Sense) (x : Sense) → Some x ≡ sense_of_fields k o fs None → sense_of_fields k o fs further ≡ Some x
found_sense k o [] further x h = absurd (cc h)
found_sense k o (f ∷ fs) further x h = sym h

pub no_sense : (k : ClassId) (o : Bool) (fs : List FieldId) (further : Option Sense) → None ≡ sense_of_fields k o fs None → sense_of_fields k o fs further ≡ further
no_sense k o [] further h = refl
no_sense k o (f ∷ fs) further h = absurd (cc h)

pub ruleset rounds = (found_sense, no_sense)

-- ---- classes

pub look_seen : (n : List ℕ) (l : Look) → sense_of_look n l ≡ sense_of_sight n (seen l)
look_seen n None = refl
look_seen n (Some []) = refl
look_seen n (Some (AClass c ∷ [])) = refl
look_seen n (Some (AVariable v ∷ [])) = refl
look_seen n (Some (AClass c ∷ m ∷ ms)) = refl
look_seen n (Some (AVariable v ∷ m ∷ ms)) = refl

pub member_seen : (l : Look) → sense_of_member l ≡ member_of_sight (seen l)
member_seen None = refl
member_seen (Some []) = refl
member_seen (Some (AClass c ∷ [])) = refl
member_seen (Some (AVariable v ∷ [])) = refl
member_seen (Some (AClass c ∷ m ∷ ms)) = refl
member_seen (Some (AVariable v ∷ m ∷ ms)) = refl

pub found_member : (W : World) (k : ClassId) (n : List ℕ) (fs : List FieldId) (x : Sense) → Some x ≡ sense_of_fields k false fs None → field_or_member W k n fs ≡ x
found_member W k n [] x h = absurd (cc h)
found_member W k n (f ∷ fs) x h = cc h

pub no_member : (W : World) (k : ClassId) (n : List ℕ) (fs : List FieldId) → None ≡ sense_of_fields k false fs None → field_or_member W k n fs ≡ sense_of_member (member W.heads W.knowledge k.0 n)
no_member W k n [] h = refl
no_member W k n (f ∷ fs) h = absurd (cc h)

pub ruleset looks = (look_seen, member_seen, found_member, no_member)
