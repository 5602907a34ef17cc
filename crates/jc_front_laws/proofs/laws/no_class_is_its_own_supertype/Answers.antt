use Rattle.jc_front_laws.proofs.Job.{have_no_cycle}
use Rattle.jc_front_laws.proofs.laws.no_class_is_its_own_supertype.Goals as goal

pub returns : goal.returns
returns c = have_no_cycle
