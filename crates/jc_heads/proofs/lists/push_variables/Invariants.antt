use Rattle.std.proofs.Common.{◌≡◌, ◌++◌, take, map}
use Rattle.jc_declares.specs.Sites.{variable_sites}
use Rattle.jc_declares.specs.Heads.{variable_head}
use Rattle.jc_heads.proofs.lists.push_variables.Given as goal

abbrev pub invariant-loop-param : goal.invariant-loop-param
invariant-loop-param l = l.list ≡ l.initial.list ++ map variable_head (variable_sites l.owner (take l.param-index l.params))
