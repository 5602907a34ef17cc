use Rattle.std.proofs.Common.{rules}
use Rattle.jc_tree.specs.declared.types.TypeTree.{TypeTree}
use Rattle.jc_parse_nodes.specs.declared.trees.Vars.{Vars}
use Rattle.jc_parse_nodes.specs.Nodes.{bare_local}
use Rattle.jc_parse_nodes.proofs.nodes.bare_local_of.Goals as goal

pub returns : goal.returns
returns c = c.join.ensures (λ (a : TypeTree) (b : Vars). bare_local a b) (λ a b r p. search rules)
