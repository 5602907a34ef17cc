use Rattle.std.proofs.Common.{rules}
use Rattle.jc_tree.specs.declared.name.Ident.{Ident}
use Rattle.jc_parse_nodes.specs.declared.heads.Signature.{Signature}
use Rattle.jc_parse_nodes.proofs.headings.named_of.Goals as goal

pub returns : goal.returns
returns c = c.join.ensures (λ (a : Ident) (b : Signature). record { name = a; signature = b }) (λ a b r p. search rules)
