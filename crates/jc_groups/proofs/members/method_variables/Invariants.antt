use Rattle.std.proofs.Common.{◌≡◌, [], drop}
use Rattle.jc_groups.specs.Groups.{grouped_all}
use Rattle.jc_groups.specs.Members.{variable_of_method}
use Rattle.jc_groups.proofs.members.method_variables.Given as goal

abbrev pub invariant-loop-number : goal.invariant-loop-number
invariant-loop-number l = grouped_all variable_of_method l.number (drop l.number l.variables) l.groups ≡ grouped_all variable_of_method 0 l.variables []
