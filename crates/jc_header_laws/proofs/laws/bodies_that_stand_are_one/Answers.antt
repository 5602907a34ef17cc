use Rattle.jc_header_laws.proofs.Bodies.{one_selected}
use Rattle.jc_header_laws.proofs.laws.bodies_that_stand_are_one.Goals as goal

pub returns : goal.returns
returns c = λ T u. one_selected T u.headers
