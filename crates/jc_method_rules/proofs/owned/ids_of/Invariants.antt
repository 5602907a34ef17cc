use Rattle.std.proofs.Common.{◌≡◌, ◌++◌, length}
use Rattle.jc_method_rules.specs.Owned.{ids_of}
use Rattle.jc_method_rules.proofs.owned.ids_of.Given as goal

abbrev pub invariant-loop-rest : goal.invariant-loop-rest
invariant-loop-rest l = l.out ++ ids_of l.rest ≡ ids_of l.fn.numbers

abbrev pub decreases-loop-rest : goal.decreases-loop-rest
decreases-loop-rest l = length l.rest
