use Rattle.jc_grammar.proofs.Framing.{tokens_come_first}
use Rattle.jc_grammar.proofs.tokens_come_first.Goals as goal

pub returns : goal.returns
returns c = tokens_come_first
