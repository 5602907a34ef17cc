use Rattle.std.proofs.Common.{List, rules}
use Rattle.jc_tree.specs.declared.types.ClassTree.{ClassTree}
use Rattle.jc_tree.specs.declared.statement.Formal.{Formal}
use Rattle.jc_parse_nodes.proofs.headings.signature_of.Goals as goal

pub returns : goal.returns
returns c = c.join.ensures (λ (a : List Formal) (b : List ClassTree). record { formals = a; throws = b }) (λ a b r p. search rules)
