use Rattle.std.proofs.Common.{List, arith, rules}
use Rattle.jc_parse_nodes.specs.declared.head_parts.ForTyped.{ForTyped}
use Rattle.jc_tree.specs.declared.statement.Modifier.{Modifier}
use Rattle.jc_parse_heads.specs.HeadCode.{typed_head}
use Rattle.jc_parse_heads.proofs.looping.for_moded_of.Goals as goal

pub returns : goal.returns
returns c = c.join.ensures (λ (a : List Modifier) (b : ForTyped). typed_head a b) (λ a b r p. search rules)
