use Rattle.jc_header_laws.proofs.Supertypes.{supertype}
use Rattle.jc_header_laws.proofs.laws.written_supertypes_are_supertypes.Goals as goal

pub returns : goal.returns
returns c = λ T u n d at t places h l k e generic. supertype T t k u.types n d at places h l e generic
