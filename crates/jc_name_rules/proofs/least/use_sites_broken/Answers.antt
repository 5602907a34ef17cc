use Rattle.std.proofs.Common.{◌∙◌}
use Rattle.jc_declares.specs.Breaks.{use_site_breaks}
use Rattle.jc_looking.specs.Members.{known_in}
use Rattle.jc_written.proofs.Counting.{each_turn}
use Rattle.jc_name_rules.proofs.least.use_sites_broken.Goals as goal

pub loop-site-preserved : goal.loop-site-preserved
loop-site-preserved c =
    let H = c.args.scene.now.declared.heads.now in let K = known_in c.args.scene.now.known.now in
    each_turn (use_site_breaks H K) c.loop-site.found c.in_ok-found.found c.args.sites.now c.loop-site.site-index c.site-item.result c.loop-site-test.true c.site-item.is (c.in_ok-found.ensures c.loop-site.site-index)
    ∙ c.loop-site.invariant
