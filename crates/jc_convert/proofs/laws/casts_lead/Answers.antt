use Rattle.jc_convert.proofs.Leading.{casts_lead}
use Rattle.jc_convert.proofs.laws.casts_lead.Goals as goal

pub returns : goal.returns
returns c = casts_lead
