use Rattle.std.proofs.Common.{◌≡◌, drop, map}
use Rattle.jc_declares.specs.Sites.{walked, sites_of_top}
use Rattle.jc_sites.specs.Joining.{with_sites, counted}
use Rattle.jc_sites.proofs.units.push_tops.Given as goal

abbrev pub invariant-loop-top : goal.invariant-loop-top
invariant-loop-top l = with_sites l.sites (walked (map sites_of_top (drop l.top-index l.types)) l.at (counted l.sites)) ≡ with_sites l.initial.sites (walked (map sites_of_top l.types) l.at (counted l.initial.sites))
