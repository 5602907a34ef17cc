-- The table of a program whose names break no rule is a hierarchy.
use Rattle.std.proofs.Common.{◌≡◌, ◌<◌, List, [], sym, subst}
use Rattle.jc_rules.specs.declared.rule.Refusal.{Refusal}
use Rattle.jc_types.specs.declared.form.Ty.{Ty}
use Rattle.jc_types.specs.Accessors.{class_count, supers_of}
use Rattle.jc_judge.specs.Kinds.{class_of}
use Rattle.jc_judge.specs.Supers.{numbered}
use Rattle.jc_judge_laws.specs.Hierarchy.{IsHierarchy, IsOfTable}
use Rattle.jc_declares.specs.declared.unit.SourceUnit.{SourceUnit}
use Rattle.jc_declares.specs.Breaks.{BreaksNames}
use Rattle.jc_declares.specs.Making.{table_of}
use Rattle.jc_declares.specs.Sites.{sites_of}
use Rattle.jc_table_laws.specs.Supertypes.{IsClassType}
use Rattle.jc_table_laws.proofs.Acyclic.{acyclic}
use Rattle.jc_table_laws.proofs.Supers.{supers_formed}

module _ (units : List SourceUnit) (unbroken : (b : Refusal) → BreaksNames (sites_of units) b → ⊥) where
  super_of_table : (t : Ty) → IsClassType (table_of (sites_of units)) t → IsOfTable (table_of (sites_of units)) (class_of t)
  super_of_table t f = subst (IsOfTable (table_of (sites_of units))) (sym f.is) f.within

  pub hierarchy : supers_of (table_of (sites_of units)) (numbered 0) ≡ [] → 1 < class_count (table_of (sites_of units)) → IsHierarchy (table_of (sites_of units))
  hierarchy object several = record {
    acyclic = acyclic (sites_of units) object unbroken;
    classes = λ a t m. super_of_table t (supers_formed units unbroken (numbered a) t m);
    object = object;
    several = several;
  }
