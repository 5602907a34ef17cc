use Rattle.jc_judge_laws.proofs.Viewed.{array_view_is_object}
use Rattle.jc_judge_laws.proofs.viewing.array_is_an_object.Goals as goal

pub returns : goal.returns
returns c = array_view_is_object
