use Rattle.jc_header_laws.proofs.Constructing.{erasures_differ, of_constructors}
use Rattle.jc_header_laws.proofs.laws.erasures_of_constructors_differ.Goals as goal

pub returns : goal.returns
returns c = λ T e. erasures_differ T (of_constructors T e)
