use Rattle.std.proofs.Common.{◌≡◌, ◌-◌, suc, length}
use Rattle.jc_groups.specs.Groups.{padded}
use Rattle.jc_groups.proofs.groups.make.Given as goal

abbrev pub invariant-groups : goal.invariant-groups
invariant-groups l = padded l.group l.groups.items ≡ padded l.group l.initial.groups.items

abbrev pub decreases-groups : goal.decreases-groups
decreases-groups l = suc l.group - length l.groups.items
