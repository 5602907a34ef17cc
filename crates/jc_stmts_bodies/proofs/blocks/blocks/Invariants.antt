use Rattle.std.proofs.Common.{◌≡◌, ◌++◌, drop}
use Rattle.jc_stmts_spec.specs.Bodies.{blocks}
use Rattle.jc_stmts_bodies.proofs.blocks.blocks.Given as goal

abbrev pub invariant-loop-member : goal.invariant-loop-member
invariant-loop-member l = l.list ++ blocks (drop l.member-index l.members) ≡ blocks l.members
