use Rattle.std.proofs.Common.{◌≡◌, [], replicate}
use Rattle.jc_method_rules.proofs.owned.no_groups.Given as goal

abbrev pub invariant-loop-class : goal.invariant-loop-class
invariant-loop-class l = l.groups.items ≡ replicate l._class []
