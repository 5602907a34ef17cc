use Rattle.std.proofs.Common.{◌≡◌}
use Rattle.jc_method_rules.specs.Owned.{is_standing, picked}
use Rattle.jc_method_rules.proofs.owned.all_standing.Given as goal

abbrev pub invariant-loop-number : goal.invariant-loop-number
invariant-loop-number l = l.out.items ≡ picked (is_standing l.table l.k) 0 l.number
