use Rattle.jc_header_laws.proofs.Fitting.{are_one}
use Rattle.jc_header_laws.proofs.laws.supertypes_of_one_class_are_one.Goals as goal

pub returns : goal.returns
returns c = λ T u. are_one T u.headers
