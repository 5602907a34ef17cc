use Rattle.jc_grammar.proofs.Worked.{trees_are_worked}
use Rattle.jc_grammar.proofs.trees_are_worked.Goals as goal

pub returns : goal.returns
returns c = trees_are_worked
