use Rattle.jc_unit_laws.proofs.UnitWhole.{files_are_told}
use Rattle.jc_unit_laws.proofs.laws.files_are_told.Goals as goal

pub returns : goal.returns
returns c = files_are_told
