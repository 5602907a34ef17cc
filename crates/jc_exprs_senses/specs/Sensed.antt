-- What names mean that aren't locals, as the definition of bodies has it.
use Rattle.std.specs.Prelude.{ℕ, List, Option, Some, None, string_bytes}
use Rattle.jc_declares.specs.Making.{class_id}
use Rattle.jc_looking.specs.declared.scene.Sight.{Sight}
use Rattle.jc_looking.specs.declared.scene.Sight.TheVariants as sight
use Rattle.jc_exprs_parts_spec.specs.Senses.{Sense, OfField, OfClass, OfPackage, OfNothing}
use Rattle.jc_exprs_senses.specs.declared.sense.NameSense.{NameSense}
use Rattle.jc_exprs_senses.specs.declared.sense.NameSense.TheVariants as name

abbrev pub sense_of : NameSense → Sense
sense_of (name.Fields class is_own fields) = OfField class is_own fields
sense_of (name.Class k) = OfClass k
sense_of (name.Package p) = OfPackage (string_bytes p)
sense_of name.Nothing = OfNothing

-- if there is something
abbrev pub has_sense : Option NameSense → Option Sense
has_sense None = None
has_sense (Some s) = Some (sense_of s)

-- what a simple name means by what is seen of it
abbrev pub sense_of_sight : List ℕ → Sight → Sense
sense_of_sight n sight.Asks = OfPackage n
sense_of_sight n sight.Nothing = OfPackage n
sense_of_sight n (sight.Class c) = OfClass (class_id c)
sense_of_sight n (sight.Variable v) = OfNothing
sense_of_sight n sight.Several = OfNothing

-- .. and a member type
abbrev pub member_of_sight : Sight → Sense
member_of_sight (sight.Class c) = OfClass (class_id c)
member_of_sight _ = OfNothing
