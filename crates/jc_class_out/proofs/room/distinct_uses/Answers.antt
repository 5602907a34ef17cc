use Rattle.std.proofs.Common.{[], ◌≡◌, refl, sym}
use Rattle.std.proofs.lemmas.List.{append-nil}
use Rattle.jc_class_out.specs.declared.room.Census.{Census}
use Rattle.jc_class_out.specs.Spelling.{adds, uses}
use Rattle.jc_class_out.specs.Fitting.{places}
use Rattle.jc_class_out.proofs.Census.{told_census}
use Rattle.jc_class_out.proofs.UsesFew.{few_uses}
use Rattle.jc_class_out.proofs.room.distinct_uses.Goals as goal

none : places [] ≡ 0
unfolding adds
none = refl

pub returns : goal.returns
returns c = told_census (λ (s : Census). s.class.now) (λ (s : Census). s.at) (λ (s : Census). s.count) c.args.class.now _ c.tell_uses.new.visitor [] (uses c.args.class.now) [] (sym (append-nil (uses c.args.class.now))) (few_uses c.args.class.now c.requires) refl refl (sym none) c.in-Ok.ensures
