use Rattle.std.proofs.Common.{◌≡◌, length}
use Rattle.jc_types.specs.Breaks.{least}
use Rattle.jc_clashes.specs.Clashing.{group_broken}
use Rattle.jc_clashes.proofs.clashing.Setting.group_broken.Given as goal

abbrev pub invariant-loop-rest : goal.invariant-loop-rest
invariant-loop-rest l = least l.found (group_broken l.self.table.now l.self.class l.self.place l.all l.rest) ≡ least l.fn.found (group_broken l.self.table.now l.self.class l.self.place l.all l.fn.all)

abbrev pub decreases-loop-rest : goal.decreases-loop-rest
decreases-loop-rest l = length l.rest
