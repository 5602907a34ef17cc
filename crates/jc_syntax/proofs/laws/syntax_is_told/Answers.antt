use Rattle.jc_syntax.proofs.OneBreak.{syntax_is_told}
use Rattle.jc_syntax.proofs.laws.syntax_is_told.Goals as goal

pub returns : goal.returns
returns c = syntax_is_told
