use Rattle.std.proofs.Common.{rules}
use Rattle.jc_tree.specs.declared.name.Ident.{Ident}
use Rattle.jc_tree.specs.declared.statement.Stmt.{Stmt}
use Rattle.jc_tree.specs.declared.statement.Stmt.TheVariants as stmt_of
use Rattle.jc_parse_nodes.proofs.nodes.labeled_of.Goals as goal

pub returns : goal.returns
returns c = c.join.ensures (λ (a : Ident) (b : Stmt). stmt_of.Labeled a b) (λ a b r p. search rules)
