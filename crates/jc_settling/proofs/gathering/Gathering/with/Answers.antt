use Rattle.std.proofs.Common.{◌∙◌, ap, sym, refl, nat_eq}
use Rattle.std.specs.Prelude.{◌==◌}
use Rattle.std.specs.HashSet.{contains}
use Rattle.jc_declares.specs.Knowing.{has_class}
use Rattle.jc_settling.proofs.Gathered.{class_pushed, put_in}
use Rattle.jc_settling.proofs.gathering.Gathering.with.Goals as goal

pub invariant_of-result : goal.invariant_of-result
invariant_of-result c = record {
  same = λ q.
      put_in (q == c.args.class) q c.args.class (contains nat_eq c.args.self.classes) (contains nat_eq c.insert.new.self) (has_class q c.args.self.found) refl
      c.in_ok-insert.ensures.updates.1 (λ p apart. c.in_ok-insert.ensures.updates.2 p apart) (c.args.self.same q)
      ∙ sym (class_pushed q c.args.self.found c.args.name.now c.args.class) ∙ ap (has_class q) (sym c.in_ok-found.ensures);
}
