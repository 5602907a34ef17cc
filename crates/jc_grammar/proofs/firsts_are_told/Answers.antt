use Rattle.jc_grammar.proofs.Begun.{firsts_are_told}
use Rattle.jc_grammar.proofs.firsts_are_told.Goals as goal

pub returns : goal.returns
returns c = firsts_are_told
