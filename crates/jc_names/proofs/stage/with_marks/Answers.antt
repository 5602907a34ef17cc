use Rattle.jc_looking.specs.Members.{known_in}
use Rattle.jc_sites.specs.Joining.{sites_seen}
use Rattle.jc_names.proofs.Named.{named_by}
use Rattle.jc_names.proofs.stage.with_marks.Goals as goal

pub returns-clause-named : goal.returns-clause-named
returns-clause-named c =
    named_by c.args.units.now (sites_seen c.in_ok-sites.sites) c.args.scene.now.declared.heads.now (known_in c.args.scene.now.known.now) c.in_ok-table_with.field-0 c.in_ok-sites.ensures c.requires.heads c.requires.known
    c.in_ok-check.ensures.named c.in_ok-table_with.ensures
