use Rattle.std.proofs.Common.{Some, rules}
use Rattle.jc_tree.specs.declared.statement.Resources.{Resources}
use Rattle.jc_tree.specs.declared.statement.Stmt.TheVariants as stmt_of
use Rattle.jc_parse_nodes.specs.declared.pieces.Guarded.{Guarded}
use Rattle.jc_parse_nodes.proofs.nodes.try_with_of.Goals as goal

pub returns : goal.returns
returns c = c.join.ensures (λ (a : Resources) (b : Guarded). stmt_of.Try c.args.at (Some a) b.items b.clauses) (λ a b r p. search rules)
