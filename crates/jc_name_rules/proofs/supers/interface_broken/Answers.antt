use Rattle.std.proofs.Common.{◌∙◌}
use Rattle.jc_looking.specs.Members.{known_in}
use Rattle.jc_name_rules.proofs.SuperTurns.{interface_turn}
use Rattle.jc_name_rules.proofs.supers.interface_broken.Goals as goal

pub loop-path-preserved : goal.loop-path-preserved
loop-path-preserved c =
    interface_turn c.args.scene.now.declared.heads.now (known_in c.args.scene.now.known.now) c.args.number c.args.class.now c.loop-path.found c.unless_fits-found.result c.slice-path-items.result.now c.loop-path.path-index c.path-item.result
    c.in_ok-is_nameable.is_nameable c.interface_fits-fits.result c.in_ok-sight.sight c.loop-path-test.true c.path-item.is c.in_ok-is_nameable.ensures c.in_ok-sight.ensures c.interface_fits-fits.ensures c.unless_fits-found.ensures
    ∙ c.loop-path.invariant
