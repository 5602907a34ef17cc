use Rattle.jc_judge.proofs.Finds.{views_found}
use Rattle.jc_judge.proofs.laws.views_are_found.Goals as goal

pub returns : goal.returns
returns c = views_found
