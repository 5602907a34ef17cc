use Rattle.std.specs.Prelude.{nat_eq}
use Rattle.std.specs.HashMap.{get}
use Rattle.std.specs.HashSet.{contains}
use Rattle.jc_members.proofs.Walked.{Walks}
use Rattle.jc_members.proofs.walking.views_above.Given as goal

abbrev pub invariant-loop-turn : goal.invariant-loop-turn
invariant-loop-turn l = Walks l.table l.fn.from l.t l.at l.next l.turns (λ y. get nat_eq l.views y) (λ y. contains nat_eq l.left y)
