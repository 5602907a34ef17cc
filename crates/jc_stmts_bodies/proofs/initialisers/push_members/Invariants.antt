use Rattle.std.proofs.Common.{◌≡◌, ◌++◌, drop}
use Rattle.jc_stmts_spec.specs.Bodies.{initialisers_in}
use Rattle.jc_stmts_bodies.proofs.initialisers.push_members.Given as goal

abbrev pub invariant-loop-member : goal.invariant-loop-member
invariant-loop-member l = l.list ++ initialisers_in l.table (drop l.member-index l.members) l.left ≡ l.initial.list ++ initialisers_in l.table l.members l.fields
