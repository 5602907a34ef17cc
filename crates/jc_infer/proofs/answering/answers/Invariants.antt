use Rattle.std.proofs.Common.{◌≡◌, map, take}
use Rattle.jc_infer.specs.Steps.{answer}
use Rattle.jc_infer.proofs.answering.answers.Given as goal

abbrev pub invariant-loop-p : goal.invariant-loop-p
invariant-loop-p l = l.list ≡ map (answer l.table l.later) (take l.p-index l.parameters)
