use Rattle.std.proofs.Common.{◌≡◌, drop, map}
use Rattle.jc_declares.specs.Sites.{Membered, membered, walked}
use Rattle.jc_sites.specs.Joining.{with_sites, counted}
use Rattle.jc_sites.proofs.walking.+walk.Given as goal

abbrev pub invariant-push_members-loop-member : goal.invariant-push_members-loop-member
invariant-push_members-loop-member l =
    with_sites l.sites (walked (map (λ (m : Membered). m.walk) (map membered (drop l.member-index l.members))) l.at (counted l.sites))
    ≡ with_sites l.initial.sites (walked (map (λ (m : Membered). m.walk) (map membered l.members)) l.at (counted l.initial.sites))
