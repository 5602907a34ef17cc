use Rattle.jc_front_laws.proofs.Job.{have_table}
use Rattle.jc_front_laws.proofs.laws.sources_have_a_table.Goals as goal

pub returns : goal.returns
returns c = have_table
