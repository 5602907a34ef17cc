use Rattle.std.proofs.Common.{◌≡◌, ap, sym, ◌∙◌, subst, IfOk, OnOk}
use Rattle.jc_exprs_nodes_spec.specs.Told.{Ran, Run, fine}
use Rattle.jc_exprs_nodes.specs.Walks.{now}
use Rattle.jc_exprs_parts_spec.specs.Names.{Located}
use Rattle.jc_exprs_worlds.specs.Scenes.{world_of}
use Rattle.jc_exprs_located.specs.Locations.{has_located}
use Rattle.jc_exprs_located.proofs.Gating.{fails, passes}
use Rattle.jc_exprs_settling.specs.Settlings.{settled_of}
use Rattle.jc_exprs_parts_spec.specs.Fields.{is_open_type}
use Rattle.jc_exprs_parts_spec.specs.Names.{AtLength, array_operand}
use Rattle.jc_exprs_located.proofs.members.array_length.Goals as goal

pub returns-then-is_open_type-clause-state : goal.returns-then-is_open_type-clause-state
unfolding world_of
returns-then-is_open_type-clause-state c =
    let s = now c.args.walk.now in
    let W = world_of c.args.scene.now in
    let t = settled_of c.args.walk.now.nodes c.args.array in
    let m : Run Located = fine (AtLength c.args.place (array_operand W.table c.args.walk.now.env.bounds t)) in
    let e = ap (λ u. is_open_type W u) c.ty.ensures ∙ sym c.is_open_type.ensures in
    subst (λ (r : Ran Located). OnOk c.length_of.result (r.state ≡ now c.length_of.new.walk)) (sym (passes (is_open_type W t.ty) 618 c.args.place m s (e ∙ c.if-is_open_type.true)))
    c.length_of.ensures.state

pub returns-then-is_open_type-clause-value : goal.returns-then-is_open_type-clause-value
unfolding world_of
returns-then-is_open_type-clause-value c =
    let s = now c.args.walk.now in
    let W = world_of c.args.scene.now in
    let t = settled_of c.args.walk.now.nodes c.args.array in
    let m : Run Located = fine (AtLength c.args.place (array_operand W.table c.args.walk.now.env.bounds t)) in
    let e = ap (λ u. is_open_type W u) c.ty.ensures ∙ sym c.is_open_type.ensures in
    subst (λ (r : Ran Located). IfOk c.length_of.result (λ l. r.has ≡ has_located c.length_of.new.walk.nodes l)) (sym (passes (is_open_type W t.ty) 618 c.args.place m s (e ∙ c.if-is_open_type.true)))
    c.length_of.ensures.value

pub returns-clause-state : goal.returns-clause-state
unfolding world_of
returns-clause-state c =
    let s = now c.args.walk.now in
    let W = world_of c.args.scene.now in
    let t = settled_of c.args.walk.now.nodes c.args.array in
    let m : Run Located = fine (AtLength c.args.place (array_operand W.table c.args.walk.now.env.bounds t)) in
    let e = ap (λ u. is_open_type W u) c.ty.ensures ∙ sym c.is_open_type.ensures in
    ap (λ (r : Ran Located). r.state) (fails (is_open_type W t.ty) 618 c.args.place m s (e ∙ c.if-is_open_type.false)) ∙ c.broken.ensures.state

pub returns-clause-value : goal.returns-clause-value
unfolding world_of
returns-clause-value c =
    let s = now c.args.walk.now in
    let W = world_of c.args.scene.now in
    let t = settled_of c.args.walk.now.nodes c.args.array in
    let m : Run Located = fine (AtLength c.args.place (array_operand W.table c.args.walk.now.env.bounds t)) in
    let e = ap (λ u. is_open_type W u) c.ty.ensures ∙ sym c.is_open_type.ensures in
    ap (λ (r : Ran Located). r.has) (fails (is_open_type W t.ty) 618 c.args.place m s (e ∙ c.if-is_open_type.false)) ∙ c.broken.ensures.value
