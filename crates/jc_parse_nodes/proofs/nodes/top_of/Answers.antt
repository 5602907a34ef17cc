use Rattle.std.proofs.Common.{List, rules}
use Rattle.jc_tree.specs.declared.statement.Modifier.{Modifier}
use Rattle.jc_parse_nodes.specs.Nodes.{declaration_of}
use Rattle.jc_parse_nodes.specs.declared.pieces.Body.{Body}
use Rattle.jc_tree.specs.declared.statement.TopLevel.TheVariants as top_level_of
use Rattle.jc_parse_nodes.proofs.nodes.top_of.Goals as goal

pub returns : goal.returns
returns c = c.join.ensures (λ (a : List Modifier) (b : Body). top_level_of.Declaration (declaration_of a b)) (λ a b r p. search rules)
