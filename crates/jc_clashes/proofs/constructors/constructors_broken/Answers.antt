use Rattle.std.proofs.Common.{arith, [], ap, ◌∙◌}
use Rattle.jc_types.specs.Breaks.{least}
use Rattle.jc_header_rules.proofs.Turning.{each_turn}
use Rattle.jc_clashes.specs.Constructors.{constructors_from, constructors_in}
use Rattle.jc_clashes.proofs.constructors.constructors_broken.Goals as goal

pub loop-number-preserved : goal.loop-number-preserved
loop-number-preserved c =
    each_turn (constructors_in c.args.table.now) c.loop-number.found c.in_ok-found.found c.slice-classes.result.now c.loop-number.number c.index-classes-number.result (omega arith) c.index-classes-number.is
    (c.in_ok-found.ensures ∙ ap (λ ms. least c.loop-number.found (constructors_from c.args.table.now c.index-classes-number.result.place [] ms)) c.slice.ensures)
    ∙ c.loop-number.invariant
