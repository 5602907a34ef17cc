use Rattle.std.proofs.Common.{ℕ, rules}
use Rattle.jc_tree.specs.declared.statement.ClauseHead.{ClauseHead}
use Rattle.jc_parse_nodes.proofs.head_nodes.catch_opening_of.Goals as goal

pub returns : goal.returns
returns c = c.join.ensures (λ (a : ℕ) (b : ClauseHead). record { at = a; head = b }) (λ a b r p. search rules)
