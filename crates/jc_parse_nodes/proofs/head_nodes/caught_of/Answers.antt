use Rattle.std.proofs.Common.{List, rules}
use Rattle.jc_tree.specs.declared.name.Ident.{Ident}
use Rattle.jc_tree.specs.declared.types.ClassTree.{ClassTree}
use Rattle.jc_parse_nodes.proofs.head_nodes.caught_of.Goals as goal

pub returns : goal.returns
returns c = c.join.ensures (λ (a : List ClassTree) (b : Ident). record { more = a; name = b }) (λ a b r p. search rules)
