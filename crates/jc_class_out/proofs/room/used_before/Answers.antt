use Rattle.jc_class_out.specs.declared.room.Finder.{Finder}
use Rattle.jc_class_out.specs.Spelling.{known, uses}
use Rattle.jc_class_out.proofs.Census.{told_finds}
use Rattle.jc_class_out.proofs.room.used_before.Goals as goal

pub returns : goal.returns
returns c = told_finds (λ (s : Finder). known s.wanted) (λ (s : Finder). s.left) (λ (s : Finder). s.found) _ c.tell_uses.new.visitor (uses c.args.class.now) c.in-Ok.ensures
