use Rattle.std.proofs.Common.{◌≡◌, [], drop}
use Rattle.jc_groups.specs.Groups.{grouped_all}
use Rattle.jc_groups.specs.Members.{in_unit}
use Rattle.jc_groups.proofs.members.tops.Given as goal

abbrev pub invariant-loop-number : goal.invariant-loop-number
invariant-loop-number l = grouped_all in_unit l.number (drop l.number l.classes) l.groups ≡ grouped_all in_unit 0 l.classes []
