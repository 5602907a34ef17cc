use Rattle.jc_header_laws.proofs.Selecting.{own_body}
use Rattle.jc_header_laws.proofs.laws.methods_have_their_bodies.Goals as goal

pub returns : goal.returns
returns c = λ T u. own_body T u.headers
