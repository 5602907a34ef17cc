use Rattle.std.proofs.Common.{◌≡◌, length}
use Rattle.jc_types.specs.Breaks.{least}
use Rattle.jc_clashes.specs.Clashing.{beside_broken, passed_over}
use Rattle.jc_clashes.proofs.clashing.Setting.beside_broken.Given as goal

abbrev pub invariant-loop-rest : goal.invariant-loop-rest
invariant-loop-rest l = least l.found (beside_broken l.self.table.now l.self.class l.self.place l.s l.marks l.rest) ≡ least l.fn.found (beside_broken l.self.table.now l.self.class l.self.place l.s (passed_over l.self.table.now l.self.class l.s) l.fn.all)

abbrev pub decreases-loop-rest : goal.decreases-loop-rest
decreases-loop-rest l = length l.rest
