use Rattle.jc_table_laws.proofs.Supers.{supers_over}
use Rattle.jc_table_laws.proofs.supertypes.supertypes_speak_of_own_parameters.Goals as goal

pub returns : goal.returns
returns c = supers_over
