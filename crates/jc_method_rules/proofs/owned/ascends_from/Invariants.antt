use Rattle.std.proofs.Common.{◌≡◌, length}
use Rattle.jc_method_rules.specs.Owned.{ascends_from}
use Rattle.jc_method_rules.proofs.owned.ascends_from.Given as goal

abbrev pub invariant-loop-rest : goal.invariant-loop-rest
invariant-loop-rest l = ascends_from l.last l.rest ≡ ascends_from l.fn.first l.fn.numbers

abbrev pub decreases-loop-rest : goal.decreases-loop-rest
decreases-loop-rest l = length l.rest
