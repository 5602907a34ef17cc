use Rattle.std.proofs.Common.{List, Option, rules}
use Rattle.jc_tree.specs.declared.statement.Stmt.{Stmt}
use Rattle.jc_tree.specs.declared.statement.MethodHead.{MethodHead}
use Rattle.jc_parse_nodes.specs.Nodes.{method_member}
use Rattle.jc_parse_nodes.proofs.headings.method_end_of.Goals as goal

pub returns : goal.returns
returns c = c.join.ensures (λ (a : MethodHead) (b : Option (List Stmt)). method_member a b) (λ a b r p. search rules)
