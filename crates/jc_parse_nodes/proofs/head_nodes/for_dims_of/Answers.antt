use Rattle.std.proofs.Common.{ℕ, rules}
use Rattle.jc_parse_nodes.specs.declared.head_parts.ForKind.{ForKind}
use Rattle.jc_parse_nodes.proofs.head_nodes.for_dims_of.Goals as goal

pub returns : goal.returns
returns c = c.join.ensures (λ (a : ℕ) (b : ForKind). record { dims = a; kind = b }) (λ a b r p. search rules)
