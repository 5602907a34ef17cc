use Rattle.std.proofs.Common.{refl}
use Rattle.jc_method_rules.proofs.Gathered.{no_group}
use Rattle.jc_method_rules.proofs.owned.no_groups.Goals as goal

pub loop-class-preserved : goal.loop-class-preserved
loop-class-preserved c = no_group c.loop-class.groups.items _ _ c.loop-class._class _ refl c.in_ok-push.ensures.items c.new.ensures c.loop-class.invariant
