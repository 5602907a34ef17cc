use Rattle.std.proofs.Common.{subst}
use Rattle.jc_sub.specs.Reaching.{WayIs}
use Rattle.jc_sub.proofs.Kept.{missing_fails}
use Rattle.jc_sub.proofs.questions.classes_between.Goals as goal

pub returns-in-Missing : goal.returns-in-Missing
returns-in-Missing c =
    missing_fails _ _ _ _ _ _ c.requires.source c.requires.target (subst (λ w. WayIs c.args.table.now c.args.between.to c.args.between.from.0 w) c.in-Missing.is c.in_ok-way.ensures)
