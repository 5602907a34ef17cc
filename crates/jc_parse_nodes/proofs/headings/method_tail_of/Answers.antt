use Rattle.std.proofs.Common.{rules}
use Rattle.jc_tree.specs.declared.name.Ident.{Ident}
use Rattle.jc_parse_nodes.specs.declared.heads.NamedTail.TheVariants as tail_of
use Rattle.jc_parse_nodes.specs.declared.heads.Signature.{Signature}
use Rattle.jc_parse_nodes.proofs.headings.method_tail_of.Goals as goal

pub returns : goal.returns
returns c = c.join.ensures (λ (a : Ident) (b : Signature). tail_of.Method (record { name = a; signature = b })) (λ a b r p. search rules)
