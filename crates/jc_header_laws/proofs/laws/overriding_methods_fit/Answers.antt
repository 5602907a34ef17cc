use Rattle.jc_header_laws.proofs.Fitting.{fit}
use Rattle.jc_header_laws.proofs.laws.overriding_methods_fit.Goals as goal

pub returns : goal.returns
returns c = λ T u. fit T u.headers
