use Rattle.std.proofs.Common.{◌≡◌, map, take}
use Rattle.jc_infer.specs.Steps.{stand_in}
use Rattle.jc_infer.proofs.answering.stand_ins.Given as goal

abbrev pub invariant-loop-p : goal.invariant-loop-p
invariant-loop-p l = l.list ≡ map stand_in (take l.p-index l.parameters)
