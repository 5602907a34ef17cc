-- What the steps of the stage of names give, in one.
use Rattle.std.proofs.Common.{◌≡◌, None, List, subst, ap, ◌∙◌}
use Rattle.jc_rules.specs.declared.rule.Refusal.{Refusal}
use Rattle.jc_types.specs.declared.table.Table.{Table}
use Rattle.jc_types.specs.Breaks.{LeastOf}
use Rattle.jc_declares.specs.declared.heads.Heads.{Heads}
use Rattle.jc_declares.specs.declared.unit.SourceUnit.{SourceUnit}
use Rattle.jc_declares.specs.Breaks.{BreaksNames}
use Rattle.jc_declares.specs.Heads.{heads_of}
use Rattle.jc_declares.specs.Knowing.{known}
use Rattle.jc_declares.specs.Looking.{Knowledge}
use Rattle.jc_declares.specs.Making.{table_with}
use Rattle.jc_declares.specs.Sites.{Sites, sites_of}
use Rattle.jc_names.specs.Stage.{IsNamed}

pub named_by : (units : List SourceUnit) (S : Sites) (H : Heads) (K : Knowledge) (table : Table) → S ≡ sites_of units → H ≡ heads_of (sites_of units) → K ≡ known H → LeastOf (BreaksNames S) None → table ≡ table_with S H K → IsNamed units table
named_by units S H K table s h k none t =
    record {
      unbroken = subst (λ (x : Sites). (refused : Refusal) → BreaksNames x refused → ⊥) s none;
      is_table =
          t ∙ ap (λ (x : Sites). table_with x H K) s ∙ ap (λ (x : Knowledge). table_with (sites_of units) H x) k ∙ ap (λ (x : Heads). table_with (sites_of units) x (known x)) h;
    }
