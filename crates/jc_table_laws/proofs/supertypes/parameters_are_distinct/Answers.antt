use Rattle.jc_table_laws.proofs.Distinct.{parameters_distinct}
use Rattle.jc_table_laws.proofs.supertypes.parameters_are_distinct.Goals as goal

pub returns : goal.returns
returns c = parameters_distinct
