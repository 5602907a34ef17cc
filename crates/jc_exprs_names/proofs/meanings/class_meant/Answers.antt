use Rattle.std.proofs.Common.{ap, sym, ◌∙◌}
use Rattle.jc_exprs_nodes_spec.specs.Told.{Ran, Run, fine}
use Rattle.jc_exprs_nodes_spec.proofs.Runs.{ran_fine}
use Rattle.jc_exprs_nodes.specs.Walks.{now}
use Rattle.jc_exprs_parts_spec.specs.Names.{Meaning, Other}
use Rattle.jc_exprs_parts_spec.specs.Senses.{OfClass, may_name_class}
use Rattle.jc_exprs_worlds.specs.Scenes.{world_of}
use Rattle.jc_exprs_located.proofs.Gating.{fails, passes}
use Rattle.jc_exprs_names.proofs.meanings.class_meant.Goals as goal

pub returns-then-may_name_class-clause-state : goal.returns-then-may_name_class-clause-state
returns-then-may_name_class-clause-state c =
    let s = now c.args.walk.now in
    let a : Meaning = Other (OfClass c.args.class) in
    let b = may_name_class (world_of c.args.scene.now) c.args.class in
    ap (λ (r : Ran Meaning). r.state) (passes b 618 c.args.place (fine a) s (sym c.may_name_class.ensures ∙ c.if-may_name_class.true) ∙ ran_fine a s)

pub returns-then-may_name_class-clause-value : goal.returns-then-may_name_class-clause-value
returns-then-may_name_class-clause-value c =
    let s = now c.args.walk.now in
    let a : Meaning = Other (OfClass c.args.class) in
    let b = may_name_class (world_of c.args.scene.now) c.args.class in
    ap (λ (r : Ran Meaning). r.has) (passes b 618 c.args.place (fine a) s (sym c.may_name_class.ensures ∙ c.if-may_name_class.true) ∙ ran_fine a s)

pub returns-clause-state : goal.returns-clause-state
returns-clause-state c =
    let s = now c.args.walk.now in
    let m : Run Meaning = fine (Other (OfClass c.args.class)) in
    let b = may_name_class (world_of c.args.scene.now) c.args.class in
    ap (λ (r : Ran Meaning). r.state) (fails b 618 c.args.place m s (sym c.may_name_class.ensures ∙ c.if-may_name_class.false)) ∙ c.meaningless.ensures.state

pub returns-clause-value : goal.returns-clause-value
returns-clause-value c =
    let s = now c.args.walk.now in
    let m : Run Meaning = fine (Other (OfClass c.args.class)) in
    let b = may_name_class (world_of c.args.scene.now) c.args.class in
    ap (λ (r : Ran Meaning). r.has) (fails b 618 c.args.place m s (sym c.may_name_class.ensures ∙ c.if-may_name_class.false)) ∙ c.meaningless.ensures.value
