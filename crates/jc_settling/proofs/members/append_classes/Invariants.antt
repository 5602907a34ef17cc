use Rattle.std.proofs.Common.{◌≡◌, drop}
use Rattle.jc_settling.specs.Members.{appended_all}
use Rattle.jc_settling.proofs.members.append_classes.Given as goal

abbrev pub invariant-loop-number : goal.invariant-loop-number
invariant-loop-number l = appended_all l.number (drop l.number l.classes) l.lists.items ≡ appended_all 0 l.classes l.initial.lists.items
