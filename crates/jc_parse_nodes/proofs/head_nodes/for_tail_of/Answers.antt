use Rattle.std.proofs.Common.{List, Option, rules}
use Rattle.jc_tree.specs.declared.expression.Expr.{Expr}
use Rattle.jc_parse_nodes.proofs.head_nodes.for_tail_of.Goals as goal

pub returns : goal.returns
returns c = c.join.ensures (λ (a : Option Expr) (b : List Expr). record { test = a; update = b }) (λ a b r p. search rules)
