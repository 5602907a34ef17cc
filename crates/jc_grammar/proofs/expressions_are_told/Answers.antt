use Rattle.jc_grammar.proofs.Laws.{expressions_are_told}
use Rattle.jc_grammar.proofs.expressions_are_told.Goals as goal

pub returns : goal.returns
returns c = expressions_are_told
