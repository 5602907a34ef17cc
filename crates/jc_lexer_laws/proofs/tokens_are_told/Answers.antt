use Rattle.jc_lexer_laws.proofs.Telling.{tokens_are_told}
use Rattle.jc_lexer_laws.proofs.tokens_are_told.Goals as goal

pub returns : goal.returns
returns c = tokens_are_told
