use Rattle.jc_header_laws.proofs.Indirect.{signs_reached}
use Rattle.jc_header_laws.proofs.laws.members_sign_what_they_reach.Goals as goal

pub returns : goal.returns
returns c = λ T u. signs_reached T u
