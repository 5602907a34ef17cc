use Rattle.std.proofs.Common.{sym, ◌∙◌}
use Rattle.jc_types.proofs.Substituted.{passed}
use Rattle.jc_types.proofs.substitution.put_by_walk.Goals as goal

pub loop-i-preserved : goal.loop-i-preserved
loop-i-preserved c =
    c.loop-i.invariant ∙ passed _ _ _ (record { 0 = 0 }) _ c.requires c.loop-i-test.true (sym c.eq.ensures ∙ c.if-eq.false)
