use Rattle.jc_header_laws.proofs.Selecting.{one_chosen}
use Rattle.jc_header_laws.proofs.laws.selected_body_is_one.Goals as goal

pub returns : goal.returns
returns c = λ T u. one_chosen T u.headers
