use Rattle.std.proofs.Common.{refl, ◌∙◌}
use Rattle.jc_clashes.proofs.Built.{constructor_turn}
use Rattle.jc_clashes.proofs.constructors.constructors_from.Goals as goal

pub loop-rest-preserved : goal.loop-rest-preserved
loop-rest-preserved c =
    constructor_turn c.args.table.now c.args.place c.loop-rest.earlier _ c.loop-rest.found c.in_ok-found.found c.loop-rest.rest.now _ _ c.in-len1-up.len_at_least refl c.in_ok-found.ensures.earlier c.in_ok-found.ensures.least
    ∙ c.loop-rest.invariant
