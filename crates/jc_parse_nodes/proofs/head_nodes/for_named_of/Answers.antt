use Rattle.std.proofs.Common.{rules}
use Rattle.jc_tree.specs.declared.name.Ident.{Ident}
use Rattle.jc_parse_nodes.specs.declared.head_parts.ForDims.{ForDims}
use Rattle.jc_parse_nodes.proofs.head_nodes.for_named_of.Goals as goal

pub returns : goal.returns
returns c = c.join.ensures (λ (a : Ident) (b : ForDims). record { name = a; dims = b.dims; kind = b.kind }) (λ a b r p. search rules)
