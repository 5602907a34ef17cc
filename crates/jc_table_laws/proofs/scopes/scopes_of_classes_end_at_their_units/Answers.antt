use Rattle.jc_table_laws.proofs.Chains.{chains_end}
use Rattle.jc_table_laws.proofs.scopes.scopes_of_classes_end_at_their_units.Goals as goal

pub returns : goal.returns
returns c = chains_end
