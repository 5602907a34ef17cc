-- What the calls below say of a written type, by what is known and how a scope is read.
use Rattle.std.proofs.Common.{◌≡◌, Option, None, List, sym, ap, subst, ◌∙◌}
use Rattle.jc_rules.specs.declared.rule.Refusal.{Refusal}
use Rattle.jc_tree.specs.declared.types.TypeTree.{TypeTree}
use Rattle.jc_tree.specs.Offsets.{first_offset_of_type}
use Rattle.jc_types.specs.Breaks.{least, IsOf, LeastOf}
use Rattle.jc_types.proofs.Least.{least_of}
use Rattle.jc_declares.specs.declared.heads.Heads.{Heads}
use Rattle.jc_declares.specs.Breaks.{in_file}
use Rattle.jc_declares.specs.Looking.{Knowledge}
use Rattle.jc_declares.specs.Making.{written_at}
use Rattle.jc_declares.specs.Readings.{reading_of}
use Rattle.jc_declares.specs.Writing.{Reading, wrote_type}
use Rattle.jc_written_in.specs.declared.writing.Spot.{Spot}
use Rattle.jc_written_in.specs.Writings.{rules_in, type_in}

module _ (H : Heads) (K L : Knowledge) (R : Reading) (spot : Spot) (tree : TypeTree) (k : K ≡ L) (r : R ≡ reading_of H K spot.scope.0 spot.is_static) where
  rules_told : in_file spot.file (wrote_type H K R tree).broken ≡ rules_in H L spot tree
  rules_told = ap (λ (x : Reading). in_file spot.file (wrote_type H K x tree).broken) r ∙ ap (λ (x : Knowledge). rules_in H x spot tree) k

  pub type_told : written_at spot.file (first_offset_of_type tree) 0 (wrote_type H K R tree) ≡ type_in H L spot tree
  type_told = ap (λ (x : Reading). written_at spot.file (first_offset_of_type tree) 0 (wrote_type H K x tree)) r ∙ ap (λ (x : Knowledge). type_in H x spot tree) k

  pub least_told : (found : Option Refusal) → found ≡ least None (in_file spot.file (wrote_type H K R tree).broken) → LeastOf (λ b. IsOf b (rules_in H L spot tree)) found
  least_told found e =
      subst (λ (bs : List Refusal). LeastOf (λ b. IsOf b bs) found) rules_told
      (subst (λ (x : Option Refusal). LeastOf (λ b. IsOf b (in_file spot.file (wrote_type H K R tree).broken)) x) (sym e) (least_of (in_file spot.file (wrote_type H K R tree).broken)))
