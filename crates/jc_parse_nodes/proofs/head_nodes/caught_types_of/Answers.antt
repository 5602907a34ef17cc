use Rattle.std.proofs.Common.{rules}
use Rattle.jc_tree.specs.declared.types.ClassTree.{ClassTree}
use Rattle.jc_parse_nodes.specs.declared.head_parts.Caught.{Caught}
use Rattle.jc_parse_nodes.proofs.head_nodes.caught_types_of.Goals as goal

pub returns : goal.returns
returns c = c.join.ensures (λ (a : ClassTree) (b : Caught). record { first = a; more = b.more; name = b.name }) (λ a b r p. search rules)
