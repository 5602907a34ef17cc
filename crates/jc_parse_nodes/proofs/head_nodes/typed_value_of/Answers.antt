use Rattle.std.proofs.Common.{rules}
use Rattle.jc_tree.specs.declared.types.TypeTree.{TypeTree}
use Rattle.jc_parse_nodes.specs.declared.head_parts.Valued.{Valued}
use Rattle.jc_parse_nodes.proofs.head_nodes.typed_value_of.Goals as goal

pub returns : goal.returns
returns c = c.join.ensures (λ (a : TypeTree) (b : Valued). record { ty = a; name = b.name; value = b.value }) (λ a b r p. search rules)
