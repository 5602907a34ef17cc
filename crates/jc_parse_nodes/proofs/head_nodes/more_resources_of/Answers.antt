use Rattle.std.proofs.Common.{List, Bool, rules}
use Rattle.jc_tree.specs.declared.statement.Resource.{Resource}
use Rattle.jc_parse_nodes.proofs.head_nodes.more_resources_of.Goals as goal

pub returns : goal.returns
returns c = c.join.ensures (λ (a : List Resource) (b : Bool). record { more = a; trailing = b }) (λ a b r p. search rules)
