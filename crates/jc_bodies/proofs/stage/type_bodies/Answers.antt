use Rattle.std.proofs.Common.{◌≡◌, None, ◌∙◌}
use Rattle.jc_looking.specs.Members.{known_in}
use Rattle.jc_bodies.proofs.Ordered.{are_typed}
use Rattle.jc_bodies.proofs.stage.type_bodies.Goals as goal

pub returns-clause-typed : goal.returns-clause-typed
returns-clause-typed c =
    let T = c.args.table.now in
    let H = c.args.names.declared.heads.now in
    let K = known_in c.args.names.known.now in
    let t = c.in_ok-found.field-0 in
    let none : t.found ≡ None = cc (c.in-None.is) in
    are_typed T H K c.args.units.now c.slice-2.result.now c.in_ok-in_order-in-None.field-0 t (c.slice-2.ensures ∙ c.in_ok-bodies.ensures) none c.in_ok-found.ensures.checked c.in_ok-found.ensures.length
    c.in_ok-in_order-in-None.ensures.as_many c.in_ok-in_order-in-None.ensures.methods
