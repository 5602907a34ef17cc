use Rattle.std.proofs.Common.{◌==◌, ◌∙◌, ℕ, List, ap, sym}
use Rattle.std.specs.List.{list_any}
use Rattle.jc_class_out.specs.declared.model.ClassModel.{ClassModel}
use Rattle.jc_jvm.specs.Classes.{is_class_below}
use Rattle.jc_heap.proofs.Closed.{answer_in}
use Rattle.jc_heap.proofs.classes.Classes.is_class_below.Goals as goal

pub returns-in-Some : goal.returns-in-Some
returns-in-Some c =
    c.contains.ensures.value
    ∙ ap (λ (row : List ℕ). list_any (λ (y : ℕ). y == c.args.wanted) row) c.slice.ensures
    ∙ answer_in c.self.inside.named c.self.inside.above c.args.class c.args.wanted c.in-Some.above.now c.self.invariant.1 (sym c.in-Some.ensures.value)
    ∙ ap (λ (ms : List ClassModel). is_class_below ms c.args.class c.args.wanted) c.self.view_is
