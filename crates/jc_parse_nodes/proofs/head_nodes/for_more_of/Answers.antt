use Rattle.std.proofs.Common.{List, rules}
use Rattle.jc_tree.specs.declared.statement.Var.{Var}
use Rattle.jc_parse_nodes.specs.declared.head_parts.ForTail.{ForTail}
use Rattle.jc_parse_nodes.proofs.head_nodes.for_more_of.Goals as goal

pub returns : goal.returns
returns c = c.join.ensures (λ (a : List Var) (b : ForTail). record { more = a; test = b.test; update = b.update }) (λ a b r p. search rules)
