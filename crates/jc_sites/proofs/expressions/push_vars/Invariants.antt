use Rattle.std.proofs.Common.{◌≡◌, ◌++◌, drop}
use Rattle.jc_declares.specs.Sites.{uses_in_each, uses_of_var}
use Rattle.jc_sites.specs.Joining.{placed}
use Rattle.jc_sites.proofs.expressions.push_vars.Given as goal

abbrev pub invariant-loop-var : goal.invariant-loop-var
invariant-loop-var l = l.uses ++ placed l.spot (uses_in_each uses_of_var (drop l.var-index l.vars)) ≡ l.initial.uses ++ placed l.spot (uses_in_each uses_of_var l.vars)
