use Rattle.std.proofs.Common.{◌≡◌, ◌++◌, take}
use Rattle.jc_stmts_plan.proofs.jumps.push_rounds.Given as goal

abbrev pub invariant-loop-round : goal.invariant-loop-round
invariant-loop-round l = l.list ≡ l.initial.list ++ take l.round-index l.rounds
