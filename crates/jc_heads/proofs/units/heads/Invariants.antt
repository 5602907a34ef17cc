use Rattle.std.proofs.Common.{◌≡◌, drop}
use Rattle.jc_declares.specs.Sites.{sites_from, sites_of}
use Rattle.jc_declares.specs.Heads.{heads_of}
use Rattle.jc_heads.specs.Joining.{joined_heads, counted}
use Rattle.jc_heads.proofs.units.heads.Given as goal

abbrev pub invariant-loop-unit : goal.invariant-loop-unit
invariant-loop-unit l = joined_heads l.heads (heads_of (sites_from (drop l.unit l.units) l.unit (counted l.heads))) ≡ heads_of (sites_of l.units)
