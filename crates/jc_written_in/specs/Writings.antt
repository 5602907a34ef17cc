-- What a type means that a tree writes in a scope of a program (JLS 6.5.5), and the broken rules of the names in it.
use Rattle.std.specs.Prelude.{◌≡◌, List}
use Rattle.jc_rules.specs.declared.rule.Refusal.{Refusal}
use Rattle.jc_rules.specs.declared.stop.Stop.{Stop}
use Rattle.jc_rules.specs.declared.stop.Stop.TheVariants as stop_of
use Rattle.jc_tree.specs.declared.types.TypeTree.{TypeTree}
use Rattle.jc_tree.specs.Offsets.{first_offset_of_type}
use Rattle.jc_types.specs.Breaks.{IsLeast, IsOf}
use Rattle.jc_types.specs.declared.declarations.Written.{Written}
use Rattle.jc_declares.specs.declared.heads.Heads.{Heads}
use Rattle.jc_declares.specs.Breaks.{in_file}
use Rattle.jc_declares.specs.Looking.{Knowledge}
use Rattle.jc_declares.specs.Making.{written_at}
use Rattle.jc_declares.specs.Readings.{reading_of}
use Rattle.jc_declares.specs.Writing.{Wrote, wrote_type}
use Rattle.jc_written_in.specs.declared.writing.Spot.{Spot}

-- what a tree writes that stands in the scope of a spot, in a static place or not
abbrev pub wrote_in : Heads → Knowledge → Spot → TypeTree → Wrote
wrote_in H K spot tree = wrote_type H K (reading_of H K spot.scope.0 spot.is_static) tree

-- the type, with its places
abbrev pub type_in : Heads → Knowledge → Spot → TypeTree → Written
type_in H K spot tree = written_at spot.file (first_offset_of_type tree) 0 (wrote_in H K spot tree)

-- the rules that its names break
abbrev pub rules_in : Heads → Knowledge → Spot → TypeTree → List Refusal
rules_in H K spot tree = in_file spot.file (wrote_in H K spot tree).broken

-- this is the type, and its names break no rule
pub record IsWritten (H : Heads) (K : Knowledge) (spot : Spot) (tree : TypeTree) (it : Written) : Type 0 where
  pub unbroken : (broken : Refusal) → IsOf broken (rules_in H K spot tree) → ⊥
  pub is : it ≡ type_in H K spot tree

-- a refusal is the least break, by offset and number
abbrev pub IsWrittenStop : Heads → Knowledge → Spot → TypeTree → Stop Refusal → Type 0
IsWrittenStop H K spot tree (stop_of.Refused refused) = IsLeast (λ b. IsOf b (rules_in H K spot tree)) refused
IsWrittenStop H K spot tree stop_of.WantOfMemory = Unit {0}
