use Rattle.jc_judge_laws.proofs.Viewed.{view_exact}
use Rattle.jc_judge_laws.proofs.viewing.views_are_exact.Goals as goal

pub returns : goal.returns
returns c = view_exact
