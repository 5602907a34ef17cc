use Rattle.std.proofs.Common.{refl, ◌∙◌}
use Rattle.jc_header_rules.specs.Places.{of_written}
use Rattle.jc_header_rules.specs.Types.{type_broken}
use Rattle.jc_header_rules.proofs.Turning.{both_turn}
use Rattle.jc_type_rules.proofs.written.types_broken.Goals as goal

pub loop-rest-preserved : goal.loop-rest-preserved
loop-rest-preserved c =
    let T = c.args.table.now in
    both_turn (of_written (type_broken T)) (type_broken T) (λ x xs y ys. refl) c.loop-rest.found c.in_ok-found-in-len1-up-left.found c.loop-rest.rest.now c.loop-rest.left.now
    c.t-item.result _ c.places-item.result _ c.in-len1-up.len_at_least c.in-len1-up-left.len_at_least c.t-item.is c.places-item.is c.in_ok-found-in-len1-up-left.ensures
    ∙ c.loop-rest.invariant
