use Rattle.std.proofs.Common.{◌≡◌, ◌||◌, ◌++◌, length}
use Rattle.std.specs.Prelude.{nat_eq}
use Rattle.std.specs.HashMap.{get}
use Rattle.jc_class_rules.specs.Climbing.{AreFirsts, all_new, some_other}
use Rattle.jc_class_rules.proofs.climbing.note_all.Given as goal

abbrev pub invariant-loop-rest : goal.invariant-loop-rest
invariant-loop-rest l = record {
  other : (l.found || some_other l.met l.rest) ≡ some_other l.fn.met l.fn.types;
  met : l.met ++ all_new l.met l.rest ≡ l.fn.met ++ all_new l.fn.met l.fn.types;
  new : l.new ++ all_new l.met l.rest ≡ l.fn.new ++ all_new l.fn.met l.fn.types;
  firsts : AreFirsts (λ y. get nat_eq l.firsts y) l.met;
}

abbrev pub decreases-loop-rest : goal.decreases-loop-rest
decreases-loop-rest l = length l.rest
