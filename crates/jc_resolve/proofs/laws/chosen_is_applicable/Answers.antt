use Rattle.jc_resolve.proofs.Decides.{chosen_applies}
use Rattle.jc_resolve.proofs.laws.chosen_is_applicable.Goals as goal

pub returns : goal.returns
returns x = λ T env site c e. chosen_applies T env site c e
