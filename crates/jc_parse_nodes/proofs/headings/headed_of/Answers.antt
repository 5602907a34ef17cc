use Rattle.std.proofs.Common.{List, rules}
use Rattle.jc_tree.specs.declared.statement.Modifier.{Modifier}
use Rattle.jc_parse_nodes.specs.declared.heads.CodeHead.{CodeHead}
use Rattle.jc_parse_nodes.specs.Nodes.{with_head}
use Rattle.jc_parse_nodes.proofs.headings.headed_of.Goals as goal

pub returns : goal.returns
returns c = c.join.ensures (λ (a : List Modifier) (b : CodeHead). with_head a b) (λ a b r p. search rules)
