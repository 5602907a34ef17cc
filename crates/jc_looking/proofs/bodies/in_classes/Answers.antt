use Rattle.std.proofs.Common.{◌<◌, length, arith, sym, ap, ◌∙◌}
use Rattle.jc_looking.specs.Members.{known_in}
use Rattle.jc_looking.specs.Sights.{is_found}
use Rattle.jc_looking.proofs.Seen.{found_there, found_further}
use Rattle.jc_looking.proofs.bodies.in_classes.Goals as goal

pub returns-then-is_found : goal.returns-then-is_found
returns-then-is_found c =
    let within : c.loop-class.class-index < length c.args.classes.now = omega arith in
    let e = found_there c.args.scene.now.declared.heads.now (known_in c.args.scene.now.known.now) c.args.name.now c.args.unit c.args.classes.now c.loop-class.class-index within
    (ap is_found (sym c.in_class-found.ensures) ∙ sym c.is_found.ensures ∙ c.if-is_found.true) in
    c.in_class-found.ensures ∙ sym e ∙ c.loop-class.invariant

pub loop-class-preserved : goal.loop-class-preserved
loop-class-preserved c =
    let within : c.loop-class.class-index < length c.args.classes.now = omega arith in
    let e = found_further c.args.scene.now.declared.heads.now (known_in c.args.scene.now.known.now) c.args.name.now c.args.unit c.args.classes.now c.loop-class.class-index within
    (ap is_found (sym c.in_class-found.ensures) ∙ sym c.is_found.ensures ∙ c.if-is_found.false) in
    sym e ∙ c.loop-class.invariant
