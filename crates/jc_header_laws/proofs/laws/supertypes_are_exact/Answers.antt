use Rattle.jc_header_laws.proofs.Forming.{exact}
use Rattle.jc_header_laws.proofs.laws.supertypes_are_exact.Goals as goal

pub returns : goal.returns
returns c = λ T u. exact T u.types
