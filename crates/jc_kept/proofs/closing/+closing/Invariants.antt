use Rattle.std.proofs.Common.{◌≡◌, take, map}
use Rattle.jc_meaning.specs.Kept.{close}
use Rattle.jc_kept.specs.Arguments.{close_arg}
use Rattle.jc_kept.proofs.closing.+closing.Given as goal

abbrev pub invariant-close_args-loop-i : goal.invariant-close_args-loop-i
invariant-close_args-loop-i l = l.out ≡ map (close_arg l.vars l.captured) (take l.i l.args)

abbrev pub invariant-close_all-loop-i : goal.invariant-close_all-loop-i
invariant-close_all-loop-i l = l.out ≡ map (close l.vars l.captured) (take l.i l.types)
