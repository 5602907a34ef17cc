use Rattle.std.proofs.Common.{◌≡◌, drop}
use Rattle.jc_stmts_spec.specs.Plans.{broken_by}
use Rattle.jc_stmts_plan.proofs.jumps.broken_by.Given as goal

abbrev pub invariant-loop-round : goal.invariant-loop-round
invariant-loop-round l = broken_by l.text (drop l.round-index l.rounds) ≡ broken_by l.text l.rounds
