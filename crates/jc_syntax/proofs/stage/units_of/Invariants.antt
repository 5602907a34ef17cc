use Rattle.std.proofs.Common.{take}
use Rattle.jc_syntax.specs.Stage.{HaveUnits}
use Rattle.jc_syntax.proofs.stage.units_of.Given as goal

abbrev pub invariant-loop-n : goal.invariant-loop-n
invariant-loop-n l = HaveUnits (take l.n l.lists) l.units
