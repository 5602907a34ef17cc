use Rattle.std.proofs.Common.{◌≡◌, length}
use Rattle.jc_judge.specs.Trees.{both}
use Rattle.jc_judge.specs.Forming.{all_formed_answer}
use Rattle.jc_wellformed.proofs.forming.all_formed.Given as goal

abbrev pub invariant-loop-rest : goal.invariant-loop-rest
invariant-loop-rest l = both l.answer (all_formed_answer l.table 64 l.env l.rest) ≡ all_formed_answer l.table 64 l.env l.types

abbrev pub decreases-loop-rest : goal.decreases-loop-rest
decreases-loop-rest l = length l.rest
