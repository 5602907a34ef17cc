use Rattle.std.proofs.Common.{◌≡◌, drop, map}
use Rattle.jc_declares.specs.Sites.{Membered, membered, walked}
use Rattle.jc_declares.specs.Heads.{heads_of}
use Rattle.jc_heads.specs.Joining.{joined_heads, counted}
use Rattle.jc_heads.proofs.walking.+walk.Given as goal

abbrev pub invariant-push_members-loop-member : goal.invariant-push_members-loop-member
invariant-push_members-loop-member l =
    joined_heads l.heads (heads_of (walked (map (λ (m : Membered). m.walk) (map membered (drop l.member-index l.members))) l.at (counted l.heads)))
    ≡ joined_heads l.initial.heads (heads_of (walked (map (λ (m : Membered). m.walk) (map membered l.members)) l.at (counted l.initial.heads)))
