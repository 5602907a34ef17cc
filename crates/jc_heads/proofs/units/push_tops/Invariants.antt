use Rattle.std.proofs.Common.{◌≡◌, drop, map}
use Rattle.jc_declares.specs.Sites.{walked, sites_of_top}
use Rattle.jc_declares.specs.Heads.{heads_of}
use Rattle.jc_heads.specs.Joining.{joined_heads, counted}
use Rattle.jc_heads.proofs.units.push_tops.Given as goal

abbrev pub invariant-loop-top : goal.invariant-loop-top
invariant-loop-top l = joined_heads l.heads (heads_of (walked (map sites_of_top (drop l.top-index l.types)) l.at (counted l.heads))) ≡ joined_heads l.initial.heads (heads_of (walked (map sites_of_top l.types) l.at (counted l.initial.heads)))
