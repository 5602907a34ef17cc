use Rattle.std.proofs.Common.{Option, rules}
use Rattle.jc_tree.specs.declared.expression.Init.{Init}
use Rattle.jc_parse_nodes.specs.declared.head_parts.ForMore.{ForMore}
use Rattle.jc_parse_nodes.specs.declared.head_parts.ForKind.TheVariants as kind_is
use Rattle.jc_parse_nodes.proofs.head_nodes.for_kind_of.Goals as goal

pub returns : goal.returns
returns c = c.join.ensures (λ (a : Option Init) (b : ForMore). kind_is.Basic a b) (λ a b r p. search rules)
