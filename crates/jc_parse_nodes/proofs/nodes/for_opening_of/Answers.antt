use Rattle.std.proofs.Common.{ℕ, rules}
use Rattle.jc_tree.specs.declared.statement.ForHead.{ForHead}
use Rattle.jc_parse_nodes.proofs.nodes.for_opening_of.Goals as goal

pub returns : goal.returns
returns c = c.join.ensures (λ (a : ℕ) (b : ForHead). record { at = a; head = b }) (λ a b r p. search rules)
