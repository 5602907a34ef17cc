use Rattle.std.proofs.Common.{arith, rules}
use Rattle.jc_parse_nodes.specs.declared.head_parts.ForNamed.{ForNamed}
use Rattle.jc_tree.specs.declared.types.TypeTree.{TypeTree}
use Rattle.jc_parse_heads.specs.HeadCode.{bare_head}
use Rattle.jc_parse_heads.proofs.looping.for_bare_of.Goals as goal

pub returns : goal.returns
returns c = c.join.ensures (λ (a : TypeTree) (b : ForNamed). bare_head a b) (λ a b r p. search rules)
