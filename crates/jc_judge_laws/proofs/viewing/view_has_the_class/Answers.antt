use Rattle.jc_judge_laws.proofs.Viewed.{view_has_class}
use Rattle.jc_judge_laws.proofs.viewing.view_has_the_class.Goals as goal

pub returns : goal.returns
returns c = view_has_class
