use Rattle.std.proofs.Common.{◌≡◌, length}
use Rattle.std.specs.List.{list_any}
use Rattle.jc_clashes.specs.Clashing.{belongs}
use Rattle.jc_clashes.proofs.clashing.Setting.is_replaced.Given as goal

abbrev pub invariant-loop-rest : goal.invariant-loop-rest
invariant-loop-rest l = list_any (belongs l.self.table.now l.self.class) l.rest ≡ list_any (belongs l.self.table.now l.self.class) l.s.above

abbrev pub decreases-loop-rest : goal.decreases-loop-rest
decreases-loop-rest l = length l.rest
