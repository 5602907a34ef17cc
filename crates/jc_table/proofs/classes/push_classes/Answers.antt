use Rattle.std.proofs.Common.{arith, ◌∙◌}
use Rattle.jc_declares.specs.Making.{class_decl}
use Rattle.jc_looking.specs.Members.{known_in}
use Rattle.jc_declared.proofs.Turns.{numbered_turn}
use Rattle.jc_table.proofs.classes.push_classes.Goals as goal

pub loop-number-preserved : goal.loop-number-preserved
loop-number-preserved c =
    let H = c.args.scene.now.declared.heads.now in let K = known_in c.args.scene.now.known.now in
    numbered_turn (class_decl H K) c.loop-number.list c.push_class.new.list c.args.sites.now c.loop-number.number c.index-sites-number.result (omega arith) c.index-sites-number.is c.in_ok-push_class.ensures
    ∙ c.loop-number.invariant
