use Rattle.jc_table_laws.proofs.Supers.{supers_formed}
use Rattle.jc_table_laws.proofs.supertypes.supertypes_are_class_types.Goals as goal

pub returns : goal.returns
returns c = supers_formed
