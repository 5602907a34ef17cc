use Rattle.jc_front_laws.proofs.Headers.{have_headers}
use Rattle.jc_front_laws.proofs.laws.sources_have_headers.Goals as goal

pub returns : goal.returns
returns c = have_headers
