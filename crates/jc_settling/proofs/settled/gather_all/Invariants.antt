use Rattle.std.proofs.Common.{◌≡◌, drop}
use Rattle.jc_declares.specs.Knowing.{inherited_of}
use Rattle.jc_settling.proofs.settled.gather_all.Given as goal

abbrev pub invariant-loop-member : goal.invariant-loop-member
invariant-loop-member l =
    inherited_of l.declared.heads.now l.class l.gathered.found (drop l.member-index l.members) ≡ inherited_of l.declared.heads.now l.class l.fn.found.found l.members
