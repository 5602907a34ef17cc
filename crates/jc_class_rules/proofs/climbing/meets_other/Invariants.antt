use Rattle.std.proofs.Common.{◌≡◌, []}
use Rattle.std.specs.Prelude.{nat_eq}
use Rattle.std.specs.HashMap.{get}
use Rattle.jc_class_rules.specs.Climbing.{AreFirsts, meets_other}
use Rattle.jc_class_rules.proofs.climbing.meets_other.Given as goal

abbrev pub invariant-loop-left : goal.invariant-loop-left
invariant-loop-left l = record {
  same : meets_other l.table l.left l.met l.level ≡ meets_other l.table l.fn.steps [] l.fn.from;
  firsts : AreFirsts (λ y. get nat_eq l.firsts y) l.met;
}

abbrev pub decreases-loop-left : goal.decreases-loop-left
decreases-loop-left l = l.left
