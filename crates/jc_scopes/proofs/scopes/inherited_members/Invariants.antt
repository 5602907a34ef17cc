use Rattle.std.proofs.Common.{◌≡◌, Some, take}
use Rattle.jc_declares.specs.Making.{inherited_list}
use Rattle.jc_scopes.proofs.scopes.inherited_members.Given as goal

abbrev pub invariant-loop-member : goal.invariant-loop-member
invariant-loop-member l = l.list ≡ inherited_list (Some (take l.member-index l.members))
