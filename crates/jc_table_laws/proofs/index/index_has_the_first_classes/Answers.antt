use Rattle.jc_table_laws.proofs.Indexed.{indexed}
use Rattle.jc_table_laws.proofs.index.index_has_the_first_classes.Goals as goal

pub returns : goal.returns
returns c = indexed
