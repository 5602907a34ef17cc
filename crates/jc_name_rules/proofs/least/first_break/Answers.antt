use Rattle.jc_looking.specs.Members.{known_in}
use Rattle.jc_sites.specs.Joining.{sites_seen}
use Rattle.jc_name_rules.proofs.LeastOfAll.{least_names}
use Rattle.jc_name_rules.proofs.least.first_break.Goals as goal

pub returns : goal.returns
returns c =
    least_names (sites_seen c.args.sites.now) c.args.scene.now.declared.heads.now (known_in c.args.scene.now.known.now) c.args.cyclic.now c.requires.heads c.requires.known c.requires.cyclic
    c.in_ok-found.found c.in_ok-found-2.found c.cycles_broken.result c.in_ok-found.ensures c.in_ok-found-2.ensures c.cycles_broken.ensures
