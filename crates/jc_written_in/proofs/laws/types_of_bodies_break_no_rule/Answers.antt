use Rattle.jc_written_in.proofs.UsesWritten.{none_broken}
use Rattle.jc_written_in.proofs.laws.types_of_bodies_break_no_rule.Goals as goal

pub returns : goal.returns
returns c = none_broken
