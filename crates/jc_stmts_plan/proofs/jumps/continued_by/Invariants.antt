use Rattle.std.proofs.Common.{◌≡◌, drop}
use Rattle.jc_stmts_spec.specs.Plans.{continued_by}
use Rattle.jc_stmts_plan.proofs.jumps.continued_by.Given as goal

abbrev pub invariant-loop-round : goal.invariant-loop-round
invariant-loop-round l = continued_by l.text (drop l.round-index l.rounds) ≡ continued_by l.text l.rounds
