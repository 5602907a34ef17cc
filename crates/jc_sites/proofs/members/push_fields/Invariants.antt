use Rattle.std.proofs.Common.{◌≡◌, ◌++◌, drop}
use Rattle.jc_declares.specs.Sites.{field_sites}
use Rattle.jc_sites.proofs.members.push_fields.Given as goal

abbrev pub invariant-loop-var : goal.invariant-loop-var
invariant-loop-var l = l.list ++ field_sites l.at l.vars (drop l.var-index l.vars.more) ≡ l.initial.list ++ field_sites l.at l.vars l.vars.more
