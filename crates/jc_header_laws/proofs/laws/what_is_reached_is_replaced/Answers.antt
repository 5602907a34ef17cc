use Rattle.jc_header_laws.proofs.Indirect.{replaces_reached}
use Rattle.jc_header_laws.proofs.laws.what_is_reached_is_replaced.Goals as goal

pub returns : goal.returns
returns c = λ T h u m p. replaces_reached T h u m p
