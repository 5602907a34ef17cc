use Rattle.jc_grammar.proofs.Laws.{statements_are_told}
use Rattle.jc_grammar.proofs.statements_are_told.Goals as goal

pub returns : goal.returns
returns c = statements_are_told
