use Rattle.jc_front_laws.proofs.Headers.{have_hierarchy}
use Rattle.jc_front_laws.proofs.laws.sources_form_a_hierarchy.Goals as goal

pub returns : goal.returns
returns c = have_hierarchy
