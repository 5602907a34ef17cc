use Rattle.std.proofs.Common.{◌≡◌, length}
use Rattle.jc_overriding.specs.Overriding.{body_for}
use Rattle.jc_members.proofs.selecting.body_for.Given as goal

abbrev pub invariant-loop-rest : goal.invariant-loop-rest
invariant-loop-rest l = body_for l.table l.k l.m l.rest ≡ body_for l.table l.k l.m l.fn.ids

abbrev pub decreases-loop-rest : goal.decreases-loop-rest
decreases-loop-rest l = length l.rest
