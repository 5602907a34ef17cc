use Rattle.std.proofs.Common.{◌≡◌, ap, sym, ◌∙◌, subst, Some, IfOk}
use Rattle.std.specs.Option.{option_copied}
use Rattle.jc_exprs_nodes_spec.specs.Told.{Ran, ran}
use Rattle.jc_exprs_nodes_spec.specs.Typeds.{Typed}
use Rattle.jc_exprs_nodes.specs.Walks.{has, now}
use Rattle.jc_exprs_parts_spec.specs.Names.{object_known}
use Rattle.jc_exprs_located.specs.Locations.{field_of}
use Rattle.jc_exprs_located.proofs.reading.object_known.Goals as goal

pub returns-in-Some-2-clause-value : goal.returns-in-Some-2-clause-value
returns-in-Some-2-clause-value c =
    let s = now c.args.walk.now in
    let T = c.args.scene.now.table.now in
    let f = field_of c.args.walk.now.nodes c.args.found in
    let env = c.args.walk.now.env.bounds in
    let k = c.in-Some.constant.now in
    subst (λ (r : Ran Typed). IfOk c.known_of_object.result (λ at. r.has ≡ has c.known_of_object.new.walk.nodes at)) (sym (ap (λ o. ran (object_known T f env c.args.found.is_simple o) s) (sym c.constant_field.ensures ∙ ap option_copied c.in-Some.is) ∙ ap (λ b. ran (object_known T f env b (Some k)) s) c.if-found.false))
    c.known_of_object.ensures.value
