use Rattle.std.proofs.Common.{sym, ap, ◌∙◌}
use Rattle.jc_declares.specs.declared.heads.ScopeForm.{ScopeForm}
use Rattle.jc_declares.specs.Readings.{method_reading}
use Rattle.jc_written.specs.At.{form_reading}
use Rattle.jc_written.proofs.reading.reading_in_form.Goals as goal

pub returns-in-Unit : goal.returns-in-Unit
returns-in-Unit c =
    λ K. c.unit_reading.ensures c.args.heads.now K ∙ ap (λ (f : ScopeForm). form_reading c.args.heads.now K f c.args.is_static) (sym c.in-Unit.is)

pub returns-in-Class : goal.returns-in-Class
returns-in-Class c =
    λ K. c.body_reading.ensures c.args.heads.now K ∙ ap (λ (f : ScopeForm). form_reading c.args.heads.now K f c.args.is_static) (sym c.in-Class.is)

pub returns-in-Method : goal.returns-in-Method
returns-in-Method c =
    λ K. c.method_reading.ensures c.args.heads.now K ∙ ap (λ n. method_reading c.args.heads.now K c.in-Method.method n c.args.is_static) c.class_of_method.ensures
    ∙ ap (λ (f : ScopeForm). form_reading c.args.heads.now K f c.args.is_static) (sym c.in-Method.is)
