use Rattle.std.proofs.Common.{◌≡◌, ap, sym, ◌∙◌, subst, List, ◌++◌}
use Rattle.std.specs.Prelude.{IfOk, OnOk}
use Rattle.jc_rules.specs.declared.rule.Refusal.{Refusal}
use Rattle.jc_exprs_nodes_spec.specs.Gates.{stopped}
use Rattle.jc_exprs_nodes_spec.specs.Told.{Ran, Run, fine, provided, ran, unless}
use Rattle.jc_exprs_nodes.specs.Walks.{as_breaks, now}
use Rattle.jc_exprs_parts_spec.specs.Fields.{is_static_field, may_name_field}
use Rattle.jc_exprs_parts_spec.specs.Names.{AtField, Located, class_field}
use Rattle.jc_exprs_parts_spec.specs.Worlds.{named_class}
use Rattle.jc_exprs_worlds.specs.Scenes.{world_of}
use Rattle.jc_exprs_located.specs.Locations.{has_located}
use Rattle.jc_exprs_located.proofs.Gating.{both_pass, stops_by}
use Rattle.jc_exprs_names.proofs.classes.usable_field.Goals as goal

pub returns-then-both_hold-clause-state : goal.returns-then-both_hold-clause-state
returns-then-both_hold-clause-state c =
    let st = now c.args.walk.now in
    let W = world_of c.args.scene.now in
    let T = c.args.scene.now.table.now in
    let m : Run Located = fine (AtField (class_field W c.args.place c.args.field)) in
    let x : List Refusal = unless (may_name_field W (named_class T c.args.class) c.args.field) 618 c.args.place in
    let y : List Refusal = unless (is_static_field T c.args.field) 611 c.args.place in
    let p : as_breaks c.closed_break-is_closed.result ≡ x = c.closed_break-is_closed.ensures ∙ ap (λ t. unless (may_name_field W t c.args.field) 618 c.args.place) c.named_class-ty.ensures in
    let q : as_breaks c.object_break-of_object.result ≡ y = c.object_break-of_object.ensures in
    let z = both_pass x y m st (sym p ∙ ap as_breaks (c.both_hold.ensures.first c.if-both_hold.true)) (sym q ∙ ap as_breaks (c.both_hold.ensures.second c.if-both_hold.true)) in
    subst (λ (r : Ran Located). OnOk c.class_field.result (r.state ≡ now c.class_field.new.walk)) (sym z) c.class_field.ensures.state

pub returns-then-both_hold-clause-value : goal.returns-then-both_hold-clause-value
returns-then-both_hold-clause-value c =
    let st = now c.args.walk.now in
    let W = world_of c.args.scene.now in
    let T = c.args.scene.now.table.now in
    let m : Run Located = fine (AtField (class_field W c.args.place c.args.field)) in
    let x : List Refusal = unless (may_name_field W (named_class T c.args.class) c.args.field) 618 c.args.place in
    let y : List Refusal = unless (is_static_field T c.args.field) 611 c.args.place in
    let p : as_breaks c.closed_break-is_closed.result ≡ x = c.closed_break-is_closed.ensures ∙ ap (λ t. unless (may_name_field W t c.args.field) 618 c.args.place) c.named_class-ty.ensures in
    let q : as_breaks c.object_break-of_object.result ≡ y = c.object_break-of_object.ensures in
    let z = both_pass x y m st (sym p ∙ ap as_breaks (c.both_hold.ensures.first c.if-both_hold.true)) (sym q ∙ ap as_breaks (c.both_hold.ensures.second c.if-both_hold.true)) in
    subst (λ (r : Ran Located). IfOk c.class_field.result (λ l. r.has ≡ has_located c.class_field.new.walk.nodes l)) (sym z) c.class_field.ensures.value

pub returns-clause-state : goal.returns-clause-state
returns-clause-state c =
    let st = now c.args.walk.now in
    let W = world_of c.args.scene.now in
    let T = c.args.scene.now.table.now in
    let m : Run Located = fine (AtField (class_field W c.args.place c.args.field)) in
    let x : List Refusal = unless (may_name_field W (named_class T c.args.class) c.args.field) 618 c.args.place in
    let y : List Refusal = unless (is_static_field T c.args.field) 611 c.args.place in
    let p : as_breaks c.closed_break-is_closed.result ≡ x = c.closed_break-is_closed.ensures ∙ ap (λ t. unless (may_name_field W t c.args.field) 618 c.args.place) c.named_class-ty.ensures in
    let q : as_breaks c.object_break-of_object.result ≡ y = c.object_break-of_object.ensures in
    let z : ran (provided (x ++ y) m) st ≡ stopped (now c.refused_both.new.walk) =
    stops_by (as_breaks c.closed_break-is_closed.result) (as_breaks c.object_break-of_object.result) x y m st (stopped (now c.refused_both.new.walk)) p q
    (c.refused_both.ensures.stops m (sym c.both_hold.ensures.value ∙ c.if-both_hold.false)) in
    ap (λ (r : Ran Located). r.state) z

pub returns-clause-value : goal.returns-clause-value
returns-clause-value c =
    let st = now c.args.walk.now in
    let W = world_of c.args.scene.now in
    let T = c.args.scene.now.table.now in
    let m : Run Located = fine (AtField (class_field W c.args.place c.args.field)) in
    let x : List Refusal = unless (may_name_field W (named_class T c.args.class) c.args.field) 618 c.args.place in
    let y : List Refusal = unless (is_static_field T c.args.field) 611 c.args.place in
    let p : as_breaks c.closed_break-is_closed.result ≡ x = c.closed_break-is_closed.ensures ∙ ap (λ t. unless (may_name_field W t c.args.field) 618 c.args.place) c.named_class-ty.ensures in
    let q : as_breaks c.object_break-of_object.result ≡ y = c.object_break-of_object.ensures in
    let z : ran (provided (x ++ y) m) st ≡ stopped (now c.refused_both.new.walk) =
    stops_by (as_breaks c.closed_break-is_closed.result) (as_breaks c.object_break-of_object.result) x y m st (stopped (now c.refused_both.new.walk)) p q
    (c.refused_both.ensures.stops m (sym c.both_hold.ensures.value ∙ c.if-both_hold.false)) in
    ap (λ (r : Ran Located). r.has) z ∙ ap (has_located c.refused_both.new.walk.nodes) (sym c.refused_both.ensures.none)
