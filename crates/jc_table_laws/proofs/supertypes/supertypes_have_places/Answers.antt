use Rattle.jc_table_laws.proofs.Supers.{supers_placed}
use Rattle.jc_table_laws.proofs.supertypes.supertypes_have_places.Goals as goal

pub returns : goal.returns
returns c = supers_placed
