use Rattle.std.proofs.Common.{false, sym, ap, ◌∙◌}
use Rattle.jc_types.specs.declared.declarations.Owner.{Owner}
use Rattle.jc_declares.specs.Making.{owner_reading}
use Rattle.jc_declares.specs.Readings.{method_reading}
use Rattle.jc_declared.proofs.variables.owner_reading.Goals as goal

pub returns-in-Class : goal.returns-in-Class
returns-in-Class c = λ K. c.head_reading.ensures c.args.heads.now K ∙ ap (λ (o : Owner). owner_reading c.args.heads.now K o) (sym c.in-Class.is)

pub returns-in-Method : goal.returns-in-Method
returns-in-Method c =
    λ K.
    c.method_reading.ensures c.args.heads.now K
    ∙ ap (λ n. method_reading c.args.heads.now K c.in-Method.method.0 n false) c.class_of_method.ensures
    ∙ ap (λ (o : Owner). owner_reading c.args.heads.now K o) (sym c.in-Method.is)
