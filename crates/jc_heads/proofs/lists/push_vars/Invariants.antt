use Rattle.std.proofs.Common.{◌≡◌, ◌++◌, take, map}
use Rattle.jc_heads.specs.Joining.{field_of_var}
use Rattle.jc_heads.proofs.lists.push_vars.Given as goal

abbrev pub invariant-loop-var : goal.invariant-loop-var
invariant-loop-var l = l.list ≡ l.initial.list ++ map (field_of_var l.class) (take l.var-index l.vars)
