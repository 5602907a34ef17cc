use Rattle.std.proofs.Common.{rules}
use Rattle.jc_tree.specs.declared.types.TypeTree.{TypeTree}
use Rattle.jc_parse_nodes.specs.declared.head_parts.ForNamed.{ForNamed}
use Rattle.jc_parse_nodes.proofs.head_nodes.for_typed_of.Goals as goal

pub returns : goal.returns
returns c = c.join.ensures (λ (a : TypeTree) (b : ForNamed). record { ty = a; named = b }) (λ a b r p. search rules)
