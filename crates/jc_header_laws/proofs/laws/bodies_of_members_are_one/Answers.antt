use Rattle.jc_header_laws.proofs.Bodies.{one_body}
use Rattle.jc_header_laws.proofs.laws.bodies_of_members_are_one.Goals as goal

pub returns : goal.returns
returns c = λ T u. one_body T u.headers
