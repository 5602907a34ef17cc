use Rattle.std.proofs.Common.{arith, ◌∙◌}
use Rattle.jc_header_rules.proofs.Turning.{each_turn}
use Rattle.jc_clashes.specs.Clashing.{class_clashes}
use Rattle.jc_clashes.proofs.stage.Compared.classes_broken.Goals as goal

pub loop-number-preserved : goal.loop-number-preserved
loop-number-preserved c =
    each_turn (class_clashes c.args.self.now.table.now c.args.self.now.groups.now) c.loop-number.found c.in_ok-found.found c.slice-classes.result.now c.loop-number.number c.index-classes-number.result (omega arith) c.index-classes-number.is c.in_ok-found.ensures
    ∙ c.loop-number.invariant
