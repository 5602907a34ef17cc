use Rattle.jc_front_laws.proofs.Job.{have_order}
use Rattle.jc_front_laws.proofs.laws.ids_ascend_with_places.Goals as goal

pub returns : goal.returns
returns c = have_order
