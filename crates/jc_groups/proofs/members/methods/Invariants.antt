use Rattle.std.proofs.Common.{◌≡◌, [], drop}
use Rattle.jc_groups.specs.Groups.{grouped_all}
use Rattle.jc_groups.specs.Members.{of_class}
use Rattle.jc_groups.proofs.members.methods.Given as goal

abbrev pub invariant-loop-number : goal.invariant-loop-number
invariant-loop-number l = grouped_all of_class l.number (drop l.number l.places) l.groups ≡ grouped_all of_class 0 l.places []
