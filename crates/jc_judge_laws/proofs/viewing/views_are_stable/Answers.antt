use Rattle.jc_judge_laws.proofs.Viewed.{view_stable}
use Rattle.jc_judge_laws.proofs.viewing.views_are_stable.Goals as goal

pub returns : goal.returns
returns c = view_stable
