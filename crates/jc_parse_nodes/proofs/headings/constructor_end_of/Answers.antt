use Rattle.std.proofs.Common.{List, rules}
use Rattle.jc_tree.specs.declared.statement.Member.TheVariants as member_of
use Rattle.jc_tree.specs.declared.statement.Stmt.{Stmt}
use Rattle.jc_tree.specs.declared.statement.MethodHead.{MethodHead}
use Rattle.jc_parse_nodes.proofs.headings.constructor_end_of.Goals as goal

pub returns : goal.returns
returns c = c.join.ensures (λ (a : MethodHead) (b : List Stmt). member_of.Method a b) (λ a b r p. search rules)
