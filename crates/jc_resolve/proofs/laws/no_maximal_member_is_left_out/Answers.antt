use Rattle.jc_resolve.proofs.Decides.{none_left_out}
use Rattle.jc_resolve.proofs.laws.no_maximal_member_is_left_out.Goals as goal

pub returns : goal.returns
returns x = λ T env site c e cs g d k n. none_left_out T env site c e cs g d k n
