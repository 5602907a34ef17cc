use Rattle.std.proofs.Common.{◌++◌, ◌∷◌, [], Bool, List, sym, ap, subst, ◌∙◌, ◌+◌}
use Rattle.jc_components.specs.declared.claims.Claim.{Claim}
use Rattle.jc_components.specs.Marks.{AreReached}
use Rattle.jc_components.proofs.Marks.{claimed_more}
use Rattle.jc_components.proofs.marking.claimed.Goals as goal

pub loop-vertex-preserved : goal.loop-vertex-preserved
loop-vertex-preserved c =
    subst (λ (marks : List Bool). AreReached c.args.rows.now marks (c.loop-vertex.vertex + 1))
    (sym (c.in_ok-push.ensures.ok ∙ ap (λ (x : Claim). c.loop-vertex.marks ++ x.is_cyclic ∷ []) c.claim_at.ensures))
    (claimed_more c.args.rows.now c.args.claims.now c.loop-vertex.marks c.loop-vertex.vertex c.requires.closed c.requires.proper c.loop-vertex-test.true c.loop-vertex.invariant)
