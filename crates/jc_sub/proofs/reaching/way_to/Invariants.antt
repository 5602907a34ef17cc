use Rattle.std.proofs.Common.{◌≡◌, true}
use Rattle.std.specs.Prelude.{nat_eq}
use Rattle.std.specs.HashSet.{contains}
use Rattle.jc_sub.proofs.Reached.{Walking}
use Rattle.jc_sub.proofs.reaching.way_to.Given as goal

abbrev pub invariant-loop-turn : goal.invariant-loop-turn
invariant-loop-turn l = Walking l.table l.k l.fn.from.0 l.at l.next l.turns (λ y. contains nat_eq l.left y ≡ true)
