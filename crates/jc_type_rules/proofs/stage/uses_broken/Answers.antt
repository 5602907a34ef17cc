use Rattle.std.proofs.Common.{arith, ◌∙◌}
use Rattle.jc_header_rules.specs.Types.{use_broken}
use Rattle.jc_header_rules.proofs.Turning.{each_turn}
use Rattle.jc_type_rules.proofs.stage.uses_broken.Goals as goal

pub loop-number-preserved : goal.loop-number-preserved
loop-number-preserved c =
    each_turn (use_broken c.args.table.now) c.loop-number.found c.in_ok-found.found c.args.uses.now c.loop-number.number c.index-uses-number.result (omega arith) c.index-uses-number.is c.in_ok-found.ensures
    ∙ c.loop-number.invariant
