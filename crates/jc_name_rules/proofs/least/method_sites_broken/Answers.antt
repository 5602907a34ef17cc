use Rattle.std.proofs.Common.{arith, ◌∙◌}
use Rattle.jc_declares.specs.Breaks.{method_site_breaks}
use Rattle.jc_looking.specs.Members.{known_in}
use Rattle.jc_written.proofs.Counting.{each_turn}
use Rattle.jc_name_rules.proofs.least.method_sites_broken.Goals as goal

pub loop-number-preserved : goal.loop-number-preserved
loop-number-preserved c =
    let H = c.args.scene.now.declared.heads.now in let K = known_in c.args.scene.now.known.now in
    each_turn (method_site_breaks H K) c.loop-number.found c.in_ok-found.found c.args.sites.now c.loop-number.number c.index-sites-number.result (omega arith) c.index-sites-number.is c.in_ok-found.ensures
    ∙ c.loop-number.invariant
