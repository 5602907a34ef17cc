use Rattle.std.proofs.Common.{◌∙◌, refl}
use Rattle.jc_declares.specs.Making.{use_decls, use_with}
use Rattle.jc_declares.specs.Readings.{wrote_in_use}
use Rattle.jc_declares.specs.Sites.{UseSite}
use Rattle.jc_looking.specs.Members.{known_in}
use Rattle.jc_declared.proofs.Turns.{added_turn}
use Rattle.jc_declared.proofs.uses.push_uses.Goals as goal

pub loop-site-preserved : goal.loop-site-preserved
loop-site-preserved c =
    let H = c.args.scene.now.declared.heads.now in let K = known_in c.args.scene.now.known.now in
    added_turn (use_decls H K) (λ (u : UseSite). use_with H u (wrote_in_use H K u)) (λ u us. refl)
    c.loop-site.list c.push_site.new.list c.args.sites.now c.loop-site.site-index c.site-item.result c.loop-site-test.true c.site-item.is c.in_ok-push_site.ensures
    ∙ c.loop-site.invariant
