use Rattle.std.proofs.Common.{ℕ, List, rules}
use Rattle.jc_tree.specs.declared.statement.Member.TheVariants as member_of
use Rattle.jc_tree.specs.declared.statement.Stmt.{Stmt}
use Rattle.jc_parse_nodes.proofs.nodes.initialiser_of.Goals as goal

pub returns : goal.returns
returns c = c.join.ensures (λ (a : ℕ) (b : List Stmt). member_of.Initialiser a c.args.is_static b) (λ a b r p. search rules)
