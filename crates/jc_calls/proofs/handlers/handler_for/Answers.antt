use Rattle.std.proofs.Common.{List, ◌∙◌, ap}
use Rattle.jc_class_out.specs.declared.model.ClassModel.{ClassModel}
use Rattle.jc_class_out.specs.declared.model.Handler.{Handler}
use Rattle.jc_jvm.specs.Classes.{code_at}
use Rattle.jc_calls.specs.Handled.{handled_at}
use Rattle.jc_calls.proofs.HandlerRows.{handled_in}
use Rattle.jc_calls.proofs.handlers.handler_for.Goals as goal

pub returns-in-Some : goal.returns-in-Some
returns-in-Some c =
    c.place_for.ensures
    ∙ ap (λ (rows : List Handler). handled_at c.args.classes.now c.args.thrown c.args.now.now.at rows) c.slice.ensures
    ∙ handled_in c.args.classes.now c.args.thrown c.args.now.now c.in-Some.code.now (c.in-Some.ensures ∙ ap (λ (models : List ClassModel). code_at models c.args.now.now.class c.args.now.now.method) c.models.ensures)
