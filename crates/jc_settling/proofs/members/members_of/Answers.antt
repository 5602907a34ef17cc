use Rattle.jc_settling.proofs.Listed.{members_listed}
use Rattle.jc_settling.proofs.members.members_of.Goals as goal

pub returns : goal.returns
returns c = members_listed c.args.heads.now c.slice.result.now c.new-lists.result.items c.append_classes.new.lists.items c.slice.ensures c.new-lists.ensures.items c.in_ok-append_classes.ensures
