use Rattle.std.proofs.Common.{◌≡◌, length}
use Rattle.jc_types.specs.Breaks.{least}
use Rattle.jc_method_rules.specs.Pairs.{pairs_breaks}
use Rattle.jc_method_rules.proofs.methods.pairs_broken.Given as goal

abbrev pub invariant-loop-rest : goal.invariant-loop-rest
invariant-loop-rest l = least l.found (pairs_breaks l.table l.m l.place l.rest) ≡ least l.fn.found (pairs_breaks l.table l.m l.place l.fn.ids)

abbrev pub decreases-loop-rest : goal.decreases-loop-rest
decreases-loop-rest l = length l.rest
