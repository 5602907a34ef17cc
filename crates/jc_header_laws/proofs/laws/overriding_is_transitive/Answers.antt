use Rattle.jc_header_laws.proofs.Indirect.{overrides_beyond}
use Rattle.jc_header_laws.proofs.laws.overriding_is_transitive.Goals as goal

pub returns : goal.returns
returns c = λ T h u m n p. overrides_beyond T h u m n p
