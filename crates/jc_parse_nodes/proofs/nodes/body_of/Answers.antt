use Rattle.std.proofs.Common.{List, rules}
use Rattle.jc_tree.specs.declared.statement.Member.{Member}
use Rattle.jc_parse_nodes.specs.declared.trees.HeadTree.{HeadTree}
use Rattle.jc_parse_nodes.proofs.nodes.body_of.Goals as goal

pub returns : goal.returns
returns c = c.join.ensures (λ (a : HeadTree) (b : List Member). record { head = a; members = b }) (λ a b r p. search rules)
