use Rattle.std.proofs.Common.{List, rules}
use Rattle.jc_tree.specs.declared.statement.ClauseHead.TheVariants as clause_head_of
use Rattle.jc_tree.specs.declared.statement.Modifier.{Modifier}
use Rattle.jc_parse_nodes.specs.declared.head_parts.CaughtTypes.{CaughtTypes}
use Rattle.jc_parse_nodes.proofs.head_nodes.catch_head_of.Goals as goal

pub returns : goal.returns
returns c = c.join.ensures (λ (a : List Modifier) (b : CaughtTypes). clause_head_of.Catch a b.first b.more b.name) (λ a b r p. search rules)
