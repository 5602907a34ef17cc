use Rattle.jc_header_laws.proofs.Forming.{well_formed}
use Rattle.jc_header_laws.proofs.laws.written_types_are_well_formed.Goals as goal

pub returns : goal.returns
returns c = λ T u. well_formed T u.types
