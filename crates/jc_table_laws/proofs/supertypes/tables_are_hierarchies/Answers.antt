use Rattle.jc_table_laws.proofs.Hierarchies.{hierarchy}
use Rattle.jc_table_laws.proofs.supertypes.tables_are_hierarchies.Goals as goal

pub returns : goal.returns
returns c = hierarchy
