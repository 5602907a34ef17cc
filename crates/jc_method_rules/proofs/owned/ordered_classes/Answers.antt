use Rattle.std.proofs.Common.{nat_eq, ◌∙◌}
use Rattle.std.proofs.lemmas.List.Sorted.{list_any-IsPermutation}
use Rattle.jc_method_rules.proofs.owned.ordered_classes.Goals as goal

pub returns : goal.returns
returns c = λ l. c.in_ok-classes.ensures l ∙ list_any-IsPermutation (nat_eq l) _ _ c.sort_unstable.ensures.permutation
