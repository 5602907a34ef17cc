use Rattle.std.proofs.Common.{List, None, Some, ap, map, subst, sym, ◌∙◌}
use Rattle.jc_typed.specs.declared.nodes.Node.{Node}
use Rattle.jc_typed.specs.Parts.{Grows}
use Rattle.jc_typed.specs.Trees.{StmtForm}
use Rattle.jc_typed.proofs.Growing.{grows_none}
use Rattle.jc_exprs_nodes_spec.specs.Told.{Ran}
use Rattle.jc_exprs_nodes.specs.Walks.{known, now}
use Rattle.jc_exprs_gathering.specs.Gathered.{AllParts}
use Rattle.jc_exprs_worlds.specs.Scenes.{world_of}
use Rattle.jc_exprs_calls.specs.Creating.{construct_form}
use Rattle.jc_exprs_calls.proofs.Creates.{constructed_none, constructed_some}
use Rattle.jc_exprs_calls.proofs.constructing.constructed.Goals as goal

-- the choice leaves the arena as it was

pub push_construct_form-requires : goal.push_construct_form-requires
push_construct_form-requires c = subst (λ (ns : List Node). AllParts ns c.args.args.now) (sym c.in_ok-chosen_constructor.ensures.nodes) c.requires

pub returns-in-None-clause-state : goal.returns-in-None-clause-state
returns-in-None-clause-state c =
    let ts = map (known c.args.walk.now.nodes) c.args.args.now in
    let z = constructed_none (world_of c.args.scene.now) c.args.place c.args.ty.now ts None (now c.args.walk.now) (now c.chosen_constructor.new.walk) c.in_ok-chosen_constructor.ensures.state
    (c.in_ok-chosen_constructor.ensures.value ∙ c.in-None.is) in
    ap (λ (x : Ran StmtForm). x.state) z

pub returns-in-None-clause-value : goal.returns-in-None-clause-value
returns-in-None-clause-value c =
    let ts = map (known c.args.walk.now.nodes) c.args.args.now in
    let z = constructed_none (world_of c.args.scene.now) c.args.place c.args.ty.now ts None (now c.args.walk.now) (now c.chosen_constructor.new.walk) c.in_ok-chosen_constructor.ensures.state
    (c.in_ok-chosen_constructor.ensures.value ∙ c.in-None.is) in
    ap (λ (x : Ran StmtForm). x.has) z

pub returns-in-None-clause-grows : goal.returns-in-None-clause-grows
returns-in-None-clause-grows c =
    subst (λ (ns : List Node). Grows c.args.walk.now.nodes ns) (sym c.in_ok-chosen_constructor.ensures.nodes) (grows_none c.args.walk.now.nodes)

pub returns-in_ok-form-in-Some-clause-state : goal.returns-in_ok-form-in-Some-clause-state
returns-in_ok-form-in-Some-clause-state c =
    let ts = map (known c.args.walk.now.nodes) c.args.args.now in
    let z = constructed_some (world_of c.args.scene.now) c.args.place c.args.ty.now ts None (now c.args.walk.now) (now c.chosen_constructor.new.walk) c.in-Some.chosen
    c.in_ok-chosen_constructor.ensures.state (c.in_ok-chosen_constructor.ensures.value ∙ c.in-Some.is) in
    ap (λ (x : Ran StmtForm). x.state) z

pub returns-in_ok-form-in-Some-clause-value : goal.returns-in_ok-form-in-Some-clause-value
unfolding world_of
returns-in_ok-form-in-Some-clause-value c =
    let ts = map (known c.args.walk.now.nodes) c.args.args.now in
    let mid = c.chosen_constructor.new.walk in
    let z = constructed_some (world_of c.args.scene.now) c.args.place c.args.ty.now ts None (now c.args.walk.now) (now mid) c.in-Some.chosen c.in_ok-chosen_constructor.ensures.state
    (c.in_ok-chosen_constructor.ensures.value ∙ c.in-Some.is) in
    let f = c.in_ok-form-in-Some.ensures.value
    ∙ ap (λ (ns : List Node). construct_form c.args.scene.now.table.now mid.env.bounds c.args.place c.args.ty.now (map (known ns) c.args.args.now) c.in-Some.chosen) c.in_ok-chosen_constructor.ensures.nodes in
    ap (λ (x : Ran StmtForm). x.has) z ∙ ap (λ (g : StmtForm). Some g) (sym f)

pub returns-in_ok-form-in-Some-clause-grows : goal.returns-in_ok-form-in-Some-clause-grows
returns-in_ok-form-in-Some-clause-grows c = subst (λ (ns : List Node). Grows ns c.push_construct_form.new.nodes) c.in_ok-chosen_constructor.ensures.nodes c.in_ok-form-in-Some.ensures.grows
