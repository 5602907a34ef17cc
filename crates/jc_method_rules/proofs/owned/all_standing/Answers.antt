use Rattle.std.proofs.Common.{cond, ◌++◌, ◌∷◌, [], refl, ap, ◌∙◌}
use Rattle.jc_method_rules.specs.Owned.{is_standing}
use Rattle.jc_method_rules.proofs.Gathered.{picked_more}
use Rattle.jc_method_rules.proofs.owned.all_standing.Goals as goal

pub loop-number-preserved : goal.loop-number-preserved
loop-number-preserved c =
    let test = is_standing c.args.table.now c.args.k in
    picked_more test c.loop-number.number _ _ refl
    (c.in_ok-push_standing.ensures ∙ ap (λ xs. xs ++ cond (test c.loop-number.number) (c.loop-number.number ∷ []) []) c.loop-number.invariant)
