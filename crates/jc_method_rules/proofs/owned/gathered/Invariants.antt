use Rattle.std.proofs.Common.{◌≡◌, ◌++◌, length}
use Rattle.jc_method_rules.specs.Owned.{gathered}
use Rattle.jc_method_rules.proofs.owned.gathered.Given as goal

abbrev pub invariant-loop-rest : goal.invariant-loop-rest
invariant-loop-rest l = l.out.items ++ gathered l.index.groups l.rest ≡ gathered l.index.groups l.fn.classes

abbrev pub decreases-loop-rest : goal.decreases-loop-rest
decreases-loop-rest l = length l.rest
