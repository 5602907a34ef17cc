use Rattle.std.proofs.Common.{◌≡◌, drop}
use Rattle.jc_stmts_spec.specs.Plans.{broken}
use Rattle.jc_stmts_plan.proofs.jumps.broken.Given as goal

abbrev pub invariant-loop-round : goal.invariant-loop-round
invariant-loop-round l = broken (drop l.round-index l.rounds) ≡ broken l.rounds
