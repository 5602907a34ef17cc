use Rattle.std.proofs.Common.{◌≡◌, ◌++◌, drop}
use Rattle.jc_infer.specs.Steps.{unknown}
use Rattle.jc_infer.proofs.answering.unknown.Given as goal

abbrev pub invariant-loop-p : goal.invariant-loop-p
invariant-loop-p l = l.list ++ unknown (drop l.p-index l.parameters) ≡ unknown l.parameters
