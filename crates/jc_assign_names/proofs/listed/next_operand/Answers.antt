use Rattle.jc_assign_names.proofs.FromLast.{next_at}
use Rattle.jc_assign_names.proofs.listed.next_operand.Goals as goal

pub returns : goal.returns
returns c = next_at c.args.nodes.now c.args.at c.args.places.now c.args.left c.requires.below c.requires.some c.requires.within
