use Rattle.std.proofs.Common.{rules}
use Rattle.jc_tree.specs.declared.types.TypeTree.{TypeTree}
use Rattle.jc_parse_nodes.specs.declared.heads.NamedTail.{NamedTail}
use Rattle.jc_parse_nodes.specs.Nodes.{typed_shape}
use Rattle.jc_parse_nodes.proofs.headings.typed_shape_of.Goals as goal

pub returns : goal.returns
returns c = c.join.ensures (λ (a : TypeTree) (b : NamedTail). typed_shape (a, b)) (λ a b r p. search rules)
