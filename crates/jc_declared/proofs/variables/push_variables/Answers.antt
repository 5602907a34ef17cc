use Rattle.std.proofs.Common.{◌∙◌}
use Rattle.jc_declares.specs.Making.{variable_decl}
use Rattle.jc_looking.specs.Members.{known_in}
use Rattle.jc_declared.proofs.Turns.{numbered_turn}
use Rattle.jc_declared.proofs.variables.push_variables.Goals as goal

pub loop-site-preserved : goal.loop-site-preserved
loop-site-preserved c =
    let H = c.args.scene.now.declared.heads.now in let K = known_in c.args.scene.now.known.now in
    numbered_turn (variable_decl H K) c.loop-site.list c.push_variable.new.list c.args.sites.now c.loop-site.site-index c.site-item.result c.loop-site-test.true c.site-item.is (c.in_ok-push_variable.ensures c.loop-site.site-index)
    ∙ c.loop-site.invariant
