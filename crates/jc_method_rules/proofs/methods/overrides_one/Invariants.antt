use Rattle.std.proofs.Common.{◌≡◌, length}
use Rattle.jc_method_rules.specs.Pairs.{overrides_one}
use Rattle.jc_method_rules.proofs.methods.overrides_one.Given as goal

abbrev pub invariant-loop-rest : goal.invariant-loop-rest
invariant-loop-rest l = overrides_one l.table l.m l.rest ≡ overrides_one l.table l.m l.fn.ids

abbrev pub decreases-loop-rest : goal.decreases-loop-rest
decreases-loop-rest l = length l.rest
