use Rattle.std.proofs.Common.{rules}
use Rattle.jc_tree.specs.declared.statement.Stmt.{Stmt}
use Rattle.jc_tree.specs.declared.statement.Stmt.TheVariants as stmt_of
use Rattle.jc_parse_nodes.specs.declared.pieces.ForOpening.{ForOpening}
use Rattle.jc_parse_nodes.proofs.nodes.for_of.Goals as goal

pub returns : goal.returns
returns c = c.join.ensures (λ (a : ForOpening) (b : Stmt). stmt_of.For a.at a.head b) (λ a b r p. search rules)
