use Rattle.std.proofs.Common.{List, Option, rules}
use Rattle.jc_tree.specs.declared.expression.Init.{Init}
use Rattle.jc_tree.specs.declared.statement.Var.{Var}
use Rattle.jc_parse_nodes.proofs.headings.parts_of.Goals as goal

pub returns : goal.returns
returns c = c.join.ensures (λ (a : Option Init) (b : List Var). record { dims = c.args.dims; init = a; more = b }) (λ a b r p. search rules)
