use Rattle.jc_convert.proofs.Leading.{assignments_lead}
use Rattle.jc_convert.proofs.laws.assignments_lead.Goals as goal

pub returns : goal.returns
returns c = assignments_lead
