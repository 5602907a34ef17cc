use Rattle.std.proofs.Common.{◌≡◌, drop}
use Rattle.jc_declares.specs.Sites.{sites_from, sites_of}
use Rattle.jc_sites.specs.Joining.{with_sites, sites_seen, counted}
use Rattle.jc_sites.proofs.units.sites.Given as goal

abbrev pub invariant-loop-unit : goal.invariant-loop-unit
invariant-loop-unit l = sites_seen (with_sites l.sites (sites_from (drop l.unit l.units) l.unit (counted l.sites))) ≡ sites_of l.units
