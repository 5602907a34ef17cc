use Rattle.jc_left_out.proofs.WorkedLeftOuts.{left_out_is_worked}
use Rattle.jc_left_out.proofs.left_out_is_worked.Goals as goal

pub returns : goal.returns
returns c = left_out_is_worked
