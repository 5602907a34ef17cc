use Rattle.jc_header_laws.proofs.Clashing.{erasures_stand, of_methods}
use Rattle.jc_header_laws.proofs.laws.members_of_one_erasure_stand_for_each_other.Goals as goal

pub returns : goal.returns
returns c = λ T e. erasures_stand T (of_methods T e)
