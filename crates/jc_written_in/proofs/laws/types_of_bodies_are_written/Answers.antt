use Rattle.jc_written_in.proofs.UsesWritten.{all_written}
use Rattle.jc_written_in.proofs.laws.types_of_bodies_are_written.Goals as goal

pub returns : goal.returns
returns c = all_written
