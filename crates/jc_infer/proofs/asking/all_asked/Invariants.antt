use Rattle.std.proofs.Common.{◌≡◌, length}
use Rattle.jc_infer.specs.Asked.{all_asked}
use Rattle.jc_infer.proofs.asking.all_asked.Given as goal

abbrev pub invariant-loop-rest : goal.invariant-loop-rest
invariant-loop-rest l =
    all_asked l.table l.env.bounds l.later l.vars l.fn.answers 0 l.parameters ≡ all_asked l.table l.env.bounds l.later l.vars l.fn.answers l.i l.rest

abbrev pub decreases-loop-rest : goal.decreases-loop-rest
decreases-loop-rest l = length l.rest
