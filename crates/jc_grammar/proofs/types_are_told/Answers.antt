use Rattle.jc_grammar.proofs.Laws.{types_are_told}
use Rattle.jc_grammar.proofs.types_are_told.Goals as goal

pub returns : goal.returns
returns c = types_are_told
