use Rattle.jc_values.specs.Idle.{idle}
use Rattle.jc_expressing.proofs.noting.is_instance.Goals as goal

pub returns : goal.returns
returns c = c.instance_of.ensures idle
