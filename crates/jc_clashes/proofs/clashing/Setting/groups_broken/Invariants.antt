use Rattle.std.proofs.Common.{◌≡◌, length}
use Rattle.jc_types.specs.Breaks.{least}
use Rattle.jc_clashes.specs.Clashing.{groups_broken}
use Rattle.jc_clashes.proofs.clashing.Setting.groups_broken.Given as goal

abbrev pub invariant-loop-rest : goal.invariant-loop-rest
invariant-loop-rest l = least l.found (groups_broken l.self.table.now l.self.class l.self.place l.rest) ≡ least l.fn.found (groups_broken l.self.table.now l.self.class l.self.place l.fn.groups)

abbrev pub decreases-loop-rest : goal.decreases-loop-rest
decreases-loop-rest l = length l.rest
