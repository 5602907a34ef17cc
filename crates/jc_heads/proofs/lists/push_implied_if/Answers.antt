use Rattle.std.proofs.Common.{[], ◌∷◌, Bool, List, map, sym, ap, ◌∙◌}
use Rattle.std.specs.Prelude.{cond}
use Rattle.jc_declares.specs.Sites.{MethodForm, implied_sites, walked}
use Rattle.jc_declares.specs.Heads.{heads_of}
use Rattle.jc_heads.specs.Joining.{joined_heads, counted}
use Rattle.jc_heads.proofs.Joinings.{walked_one}
use Rattle.jc_heads.proofs.lists.push_implied_if.Goals as goal

pub returns-in_ok-push_implied : goal.returns-in_ok-push_implied
returns-in_ok-push_implied c =
    λ form. c.in_ok-push_implied.ensures form ∙ sym (walked_one c.args.heads.now c.args.at.now (implied_sites form))
    ∙ ap (λ (b : Bool). joined_heads c.args.heads.now (heads_of (walked (map implied_sites (cond {A = List MethodForm} b (form ∷ []) [])) c.args.at.now (counted c.args.heads.now)))) (sym c.if-is_implied.true)
