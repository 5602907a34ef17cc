use Rattle.jc_header_laws.proofs.Fitting.{finds_body}
use Rattle.jc_header_laws.proofs.laws.selection_finds_a_body.Goals as goal

pub returns : goal.returns
returns c = λ T u. finds_body T u.headers
