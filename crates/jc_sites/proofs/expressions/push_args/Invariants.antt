use Rattle.std.proofs.Common.{◌≡◌, ◌++◌, drop}
use Rattle.jc_declares.specs.Sites.{uses_in_each, use_of_arg}
use Rattle.jc_sites.specs.Joining.{placed}
use Rattle.jc_sites.proofs.expressions.push_args.Given as goal

abbrev pub invariant-loop-arg : goal.invariant-loop-arg
invariant-loop-arg l = l.uses ++ placed l.spot (uses_in_each use_of_arg (drop l.arg-index l.args)) ≡ l.initial.uses ++ placed l.spot (uses_in_each use_of_arg l.args)
