use Rattle.std.proofs.Common.{◌≡◌, take, map}
use Rattle.jc_sub.specs.Reaching.{own_arg}
use Rattle.jc_lub.proofs.viewing.own_args.Given as goal

abbrev pub invariant-loop-i : goal.invariant-loop-i
invariant-loop-i l = l.out ≡ map own_arg (take l.i l.vars)
