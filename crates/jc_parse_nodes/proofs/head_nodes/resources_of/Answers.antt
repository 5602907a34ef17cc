use Rattle.std.proofs.Common.{rules}
use Rattle.jc_tree.specs.declared.statement.Resource.{Resource}
use Rattle.jc_parse_nodes.specs.declared.head_parts.MoreResources.{MoreResources}
use Rattle.jc_parse_nodes.proofs.head_nodes.resources_of.Goals as goal

pub returns : goal.returns
returns c = c.join.ensures (λ (a : Resource) (b : MoreResources). record { first = a; more = b.more; trailing = b.trailing }) (λ a b r p. search rules)
