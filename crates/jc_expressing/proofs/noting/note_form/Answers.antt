use Rattle.std.proofs.Common.{Bool, subst}
use Rattle.jc_meaning.specs.Expressions as e
use Rattle.jc_typed.specs.Parts.{parts, type_of}
use Rattle.jc_values.specs.Doing.{Does}
use Rattle.jc_values.specs.Idle.{idle}
use Rattle.jc_expressing.proofs.noting.note_form.Goals as goal

pub returns : goal.returns
returns c =
    subst (λ (b : Bool). Does (e.noted c.args.program.now idle b c.args.place (type_of c.args.nodes.now c.args.ty) c.args.v c.args.run.now.units c.args.run.now.state) c.noted.result c.noted.new.run)
    (c.is_noted.ensures c.args.program.now idle (parts c.args.nodes.now))
    (c.noted.ensures c.args.program.now idle)
