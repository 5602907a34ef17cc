use Rattle.jc_header_laws.proofs.Bodies.{one_declaration}
use Rattle.jc_header_laws.proofs.laws.declared_signatures_differ.Goals as goal

pub returns : goal.returns
returns c = λ T u. one_declaration T u.headers
