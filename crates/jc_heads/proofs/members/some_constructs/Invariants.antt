use Rattle.std.proofs.Common.{◌≡◌, drop, map}
use Rattle.jc_declares.specs.Sites.{Membered, membered, some_of}
use Rattle.jc_heads.proofs.members.some_constructs.Given as goal

abbrev pub invariant-loop-member : goal.invariant-loop-member
invariant-loop-member l = some_of (λ (m : Membered). m.constructs) (map membered (drop l.member-index l.members)) ≡ some_of (λ (m : Membered). m.constructs) (map membered l.members)
