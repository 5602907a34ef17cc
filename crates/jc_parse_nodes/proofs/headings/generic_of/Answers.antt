use Rattle.std.proofs.Common.{Some, rules}
use Rattle.jc_parse_nodes.specs.declared.heads.Shape.{Shape}
use Rattle.jc_tree.specs.declared.statement.TypeParams.{TypeParams}
use Rattle.jc_parse_nodes.proofs.headings.generic_of.Goals as goal

pub returns : goal.returns
returns c = c.join.ensures (λ (a : TypeParams) (b : Shape). record { params = Some a; shape = b }) (λ a b r p. search rules)
