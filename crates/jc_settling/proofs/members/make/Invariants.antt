use Rattle.std.proofs.Common.{◌≡◌, ◌-◌, suc, length}
use Rattle.jc_name_index.specs.Spaces.{padded}
use Rattle.jc_settling.proofs.members.make.Given as goal

abbrev pub invariant-lists : goal.invariant-lists
invariant-lists l = padded l.number l.lists.items ≡ padded l.number l.initial.lists.items

abbrev pub decreases-lists : goal.decreases-lists
decreases-lists l = suc l.number - length l.lists.items
