use Rattle.std.proofs.Common.{rules}
use Rattle.jc_tree.specs.declared.expression.Expr.{Expr}
use Rattle.jc_tree.specs.declared.name.Ident.{Ident}
use Rattle.jc_parse_nodes.proofs.head_nodes.valued_of.Goals as goal

pub returns : goal.returns
returns c = c.join.ensures (λ (a : Ident) (b : Expr). record { name = a; value = b }) (λ a b r p. search rules)
