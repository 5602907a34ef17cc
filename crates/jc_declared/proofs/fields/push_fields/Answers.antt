use Rattle.std.proofs.Common.{◌∙◌}
use Rattle.jc_declares.specs.Making.{field_decl}
use Rattle.jc_looking.specs.Members.{known_in}
use Rattle.jc_declared.proofs.Turns.{numbered_turn}
use Rattle.jc_declared.proofs.fields.push_fields.Goals as goal

pub loop-site-preserved : goal.loop-site-preserved
loop-site-preserved c =
    let H = c.args.scene.now.declared.heads.now in let K = known_in c.args.scene.now.known.now in
    numbered_turn (field_decl H K) c.loop-site.list c.push_field.new.list c.args.sites.now c.loop-site.site-index c.site-item.result c.loop-site-test.true c.site-item.is (c.in_ok-push_field.ensures c.loop-site.site-index)
    ∙ c.loop-site.invariant
