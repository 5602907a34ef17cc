use Rattle.std.proofs.Common.{refl, ◌∙◌}
use Rattle.jc_header_rules.proofs.Turning.{one_turn}
use Rattle.jc_method_rules.specs.Pairs.{pair_breaks, pairs_breaks}
use Rattle.jc_method_rules.proofs.methods.pairs_broken.Goals as goal

pub loop-rest-preserved : goal.loop-rest-preserved
loop-rest-preserved c =
    let T = c.args.table.now in
    one_turn (pairs_breaks T c.args.m c.args.place) (pair_breaks T c.args.m c.args.place) (λ x xs. refl) c.loop-rest.found c.in_ok-found.found c.loop-rest.rest.now _ _ c.in-len1-up.len_at_least refl c.in_ok-found.ensures
    ∙ c.loop-rest.invariant
