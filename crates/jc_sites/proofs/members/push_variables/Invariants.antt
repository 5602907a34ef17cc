use Rattle.std.proofs.Common.{◌≡◌, ◌++◌, take}
use Rattle.jc_declares.specs.Sites.{variable_sites}
use Rattle.jc_sites.proofs.members.push_variables.Given as goal

abbrev pub invariant-loop-param : goal.invariant-loop-param
invariant-loop-param l = l.list ≡ l.initial.list ++ variable_sites l.owner (take l.param-index l.params)
