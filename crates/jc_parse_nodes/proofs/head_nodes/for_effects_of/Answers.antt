use Rattle.std.proofs.Common.{List, rules}
use Rattle.jc_tree.specs.declared.expression.Expr.{Expr}
use Rattle.jc_tree.specs.declared.statement.ForHead.TheVariants as for_of
use Rattle.jc_tree.specs.declared.statement.ForInit.TheVariants as init_of
use Rattle.jc_parse_nodes.specs.declared.head_parts.ForTail.{ForTail}
use Rattle.jc_parse_nodes.proofs.head_nodes.for_effects_of.Goals as goal

pub returns : goal.returns
returns c = c.join.ensures (λ (a : List Expr) (b : ForTail). for_of.Basic (init_of.Effects a) b.test b.update) (λ a b r p. search rules)
