use Rattle.std.proofs.Common.{ap, sym, ◌∙◌}
use Rattle.jc_exprs_nodes_spec.specs.Told.{ran}
use Rattle.jc_exprs_nodes.specs.Walks.{now}
use Rattle.jc_exprs_parts_spec.specs.Names.{other}
use Rattle.jc_exprs_parts_spec.specs.Senses.{Sense}
use Rattle.jc_exprs_worlds.specs.Scenes.{world_of}
use Rattle.jc_exprs_names.proofs.behind.behind_other.Goals as goal

pub returns-clause-state : goal.returns-clause-state
returns-clause-state c =
    let s = now c.args.walk.now in
    let W = world_of c.args.scene.now in
    ap (λ (x : Sense). (ran (other W c.args.place x) s).state) (sym c.in_ok-next.ensures) ∙ c.other.ensures.state

pub returns-clause-value : goal.returns-clause-value
returns-clause-value c =
    let s = now c.args.walk.now in
    let W = world_of c.args.scene.now in
    ap (λ (x : Sense). (ran (other W c.args.place x) s).has) (sym c.in_ok-next.ensures) ∙ c.other.ensures.value
