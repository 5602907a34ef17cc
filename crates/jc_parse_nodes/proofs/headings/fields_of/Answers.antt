use Rattle.std.proofs.Common.{rules}
use Rattle.jc_tree.specs.declared.name.Ident.{Ident}
use Rattle.jc_parse_nodes.specs.declared.heads.FieldsTail.{FieldsTail}
use Rattle.jc_parse_nodes.specs.declared.heads.NamedTail.TheVariants as tail_of
use Rattle.jc_parse_nodes.proofs.headings.fields_of.Goals as goal

pub returns : goal.returns
returns c = c.join.ensures (λ (a : Ident) (b : FieldsTail). tail_of.Fields a b) (λ a b r p. search rules)
