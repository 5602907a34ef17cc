-- What a name means that isn't a local: a field, a class, or the beginning of a package's name (JLS 6.5.2, 6.5.6).
use Rattle.std.specs.Prelude.{ℕ, Bool, true, false, List, [], ◌∷◌, ◌++◌, Option, Some, None, codes}
use Rattle.jc_types.specs.declared.ids.ClassId.{ClassId}
use Rattle.jc_types.specs.declared.ids.FieldId.{FieldId}
use Rattle.jc_types.specs.declared.table.Table.{Table}
use Rattle.jc_types.specs.Names.{named}
use Rattle.jc_declares.specs.Heads.{types_of_package}
use Rattle.jc_declares.specs.Looking.{Look, AClass, AVariable, body_asker, is_accessible, member}
use Rattle.jc_declares.specs.Making.{class_id}
use Rattle.jc_exprs_parts_spec.specs.Fields.{class_fields}
use Rattle.jc_exprs_parts_spec.specs.Worlds.{World, reading, round}

-- fields as members of a class, where it is told whether that is the class of the place; a class; a package; or what is no value, no class and no package
pub data Sense : Type 0 where
  OfField : (class : ClassId) (is_own : Bool) (fields : List FieldId) → Sense
  OfClass : ClassId → Sense
  OfPackage : List ℕ → Sense
  OfNothing : Sense

-- ---- simple names

-- the first of the classes round the place that has a field of the name; only the first of them may have an instance there
abbrev pub sense_of_fields : ClassId → Bool → List FieldId → Option Sense → Option Sense
sense_of_fields k is_own [] further = further
sense_of_fields k is_own (f ∷ fs) further = Some (OfField k is_own (f ∷ fs))

abbrev pub field_round : Table → List ℕ → Bool → List ClassId → Option Sense
field_round T n is_own [] = None
field_round T n is_own (k ∷ ks) = sense_of_fields k is_own (class_fields T k n) (field_round T n false ks)

-- a class of the name; where the name means nothing it is a package, and a type variable or several classes are none of both
abbrev pub sense_of_look : List ℕ → Look → Sense
sense_of_look n None = OfPackage n
sense_of_look n (Some []) = OfPackage n
sense_of_look n (Some (AClass c ∷ [])) = OfClass (class_id c)
sense_of_look n (Some (AVariable v ∷ [])) = OfNothing
sense_of_look n (Some (m ∷ l ∷ ms)) = OfNothing

abbrev pub field_or_class : World → List ℕ → Option Sense → Sense
field_or_class W n (Some s) = s
field_or_class W n None = sense_of_look n ((reading W).find n)

unfoldable pub simple_sense : World → List ℕ → Sense
simple_sense W n = field_or_class W n (field_round W.table n true (round W))

-- ---- further parts

abbrev pub sense_of_member : Look → Sense
sense_of_member (Some (AClass c ∷ [])) = OfClass (class_id c)
sense_of_member _ = OfNothing

-- of a class: a field, or else a member type
abbrev pub field_or_member : World → ClassId → List ℕ → List FieldId → Sense
field_or_member W k n [] = sense_of_member (member W.heads W.knowledge k.0 n)
field_or_member W k n (f ∷ fs) = OfField k false (f ∷ fs)

-- of a package: a type, or else a longer package
abbrev pub type_or_longer : List ℕ → List ℕ → Option ℕ → Sense
type_or_longer p n (Some c) = OfClass (class_id c)
type_or_longer p n None = OfPackage (p ++ codes "." ++ n)

-- a name behind a class or a package; behind a field stands no name of a type
abbrev pub next_sense : World → List ℕ → Sense → Sense
next_sense W n (OfField k is_own fs) = OfNothing
next_sense W n (OfClass k) = field_or_member W k n (class_fields W.table k n)
next_sense W n (OfPackage p) = type_or_longer p n (named n (types_of_package W.heads p))
next_sense W n OfNothing = OfNothing

abbrev pub next_senses : World → Sense → List (List ℕ) → Sense
next_senses W s [] = s
next_senses W s (n ∷ ns) = next_senses W (next_sense W n s) ns

-- ---- classes that may be named there (JLS 6.6.1)

abbrev pub may_name_class : World → ClassId → Bool
may_name_class W k = is_accessible W.heads (body_asker W.heads W.class.0) k.0
