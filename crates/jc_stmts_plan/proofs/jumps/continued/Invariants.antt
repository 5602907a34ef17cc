use Rattle.std.proofs.Common.{◌≡◌, drop}
use Rattle.jc_stmts_spec.specs.Plans.{continued}
use Rattle.jc_stmts_plan.proofs.jumps.continued.Given as goal

abbrev pub invariant-loop-round : goal.invariant-loop-round
invariant-loop-round l = continued (drop l.round-index l.rounds) ≡ continued l.rounds
