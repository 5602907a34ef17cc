use Rattle.std.proofs.Common.{min, sym, ap, ◌∙◌}
use Rattle.jc_tree.specs.declared.expression.Creation.{Creation}
use Rattle.jc_reading.specs.Reading.{Found}
use Rattle.jc_parse_expr.proofs.JointCode.{sized_reads}
use Rattle.jc_parse_expr.proofs.primary_joints.sized_of.Goals as goal

pub returns-in-Ok : goal.returns-in-Ok
returns-in-Ok c = λ h ts e g.
    let first = c.args.first in
    let more = c.args.more in
    let dims = c.dims-dims.result in
    let made = c.in-Ok.value in (
      sized_reads c.args.element h ts first.rest.now more.rest.now dims.rest.now first.value.tree more.value.tree dims.value first.left more.left dims.left e.0 g.0 c.dims-dims.ensures
          ∙ ap (λ (t : Creation). Found t dims.rest.now (min first.left (min more.left dims.left))) (sym c.in-Ok.ensures.tree)
          ∙ ap (λ j. Found made.tree dims.rest.now j) (sym (c.min-left.ensures ∙ ap (λ k. min first.left k) c.min.ensures)),
      c.in-Ok.ensures.height e.1 g.1,
    )
