use Rattle.jc_bridges_laws.proofs.Leading.{bridges_lead}
use Rattle.jc_bridges_laws.proofs.laws.bridges_lead_to_bodies.Goals as goal

pub returns : goal.returns
returns c = bridges_lead
