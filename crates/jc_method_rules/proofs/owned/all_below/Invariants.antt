use Rattle.std.proofs.Common.{◌≡◌, length}
use Rattle.jc_method_rules.specs.Owned.{all_below}
use Rattle.jc_method_rules.proofs.owned.all_below.Given as goal

abbrev pub invariant-loop-rest : goal.invariant-loop-rest
invariant-loop-rest l = all_below l.count l.rest ≡ all_below l.count l.fn.classes

abbrev pub decreases-loop-rest : goal.decreases-loop-rest
decreases-loop-rest l = length l.rest
