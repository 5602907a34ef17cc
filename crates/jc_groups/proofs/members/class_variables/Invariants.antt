use Rattle.std.proofs.Common.{◌≡◌, [], drop}
use Rattle.jc_groups.specs.Groups.{grouped_all}
use Rattle.jc_groups.specs.Members.{variable_of_class}
use Rattle.jc_groups.proofs.members.class_variables.Given as goal

abbrev pub invariant-loop-number : goal.invariant-loop-number
invariant-loop-number l = grouped_all variable_of_class l.number (drop l.number l.variables) l.groups ≡ grouped_all variable_of_class 0 l.variables []
