use Rattle.jc_class_out.specs.declared.room.Checker.{Checker}
use Rattle.jc_class_out.specs.Spelling.{uses}
use Rattle.jc_class_out.proofs.Census.{told_checks}
use Rattle.jc_class_out.proofs.room.constants_fit.Goals as goal

pub returns : goal.returns
returns c = told_checks (λ (s : Checker). s.fits) _ c.tell_uses.new.visitor (uses c.args.class.now) c.in-Ok.ensures
