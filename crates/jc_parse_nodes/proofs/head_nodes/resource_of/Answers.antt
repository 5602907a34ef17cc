use Rattle.std.proofs.Common.{List, rules}
use Rattle.jc_tree.specs.declared.statement.Modifier.{Modifier}
use Rattle.jc_parse_nodes.specs.declared.head_parts.TypedValue.{TypedValue}
use Rattle.jc_parse_nodes.proofs.head_nodes.resource_of.Goals as goal

pub returns : goal.returns
returns c = c.join.ensures (λ (a : List Modifier) (b : TypedValue). record { modifiers = a; ty = b.ty; name = b.name; value = b.value }) (λ a b r p. search rules)
