use Rattle.jc_method_rules.proofs.Gathered.{moved_from}
use Rattle.jc_method_rules.proofs.owned.ordered_numbers.Goals as goal

pub returns : goal.returns
returns c = moved_from _ _ _ c.in_ok-numbers.ensures c.sort_unstable.ensures.permutation
