use Rattle.std.proofs.Common.{ap, sym, ◌∙◌, length}
use Rattle.jc_exprs_nodes_spec.specs.Told.{Ran, Run, fine}
use Rattle.jc_exprs_nodes.specs.Walks.{now}
use Rattle.jc_exprs_parts_spec.specs.Assigning.{Target}
use Rattle.jc_exprs_parts_spec.specs.Names.{target_of}
use Rattle.jc_exprs_targets.specs.Targets.{has_target}
use Rattle.jc_exprs_worlds.specs.Scenes.{world_of}
use Rattle.jc_exprs_located.specs.Locations.{located_of}
use Rattle.jc_exprs_names.proofs.Walked.{behind, mapped}
use Rattle.jc_exprs_names.proofs.gates.target_from.Goals as goal

pub returns-clause-state : goal.returns-clause-state
returns-clause-state c =
    let s = now c.args.walk.now in
    let W = world_of c.args.scene.now in
    let g : Target → Target = λ v. record v { start = c.args.start } in
    let m : Run Target = target_of W (located_of c.args.walk.now.nodes c.args.located) in
    let r = now c.target_of.new.walk in
    let o = has_target c.target_of.new.walk.nodes c.in_ok-found.found in
    ap (λ (x : Ran Target). x.state) (behind (λ v. fine (g v)) m s r o c.in_ok-found.ensures.state c.in_ok-found.ensures.value ∙ mapped g o r)

pub returns-clause-value : goal.returns-clause-value
returns-clause-value c =
    let s = now c.args.walk.now in
    let W = world_of c.args.scene.now in
    let g : Target → Target = λ v. record v { start = c.args.start } in
    let m : Run Target = target_of W (located_of c.args.walk.now.nodes c.args.located) in
    let r = now c.target_of.new.walk in
    let o = has_target c.target_of.new.walk.nodes c.in_ok-found.found in
    ap (λ (x : Ran Target). x.has) (behind (λ v. fine (g v)) m s r o c.in_ok-found.ensures.state c.in_ok-found.ensures.value ∙ mapped g o r) ∙ sym (c.started.ensures.value c.target_of.new.walk.nodes)

pub returns-clause-below : goal.returns-clause-below
returns-clause-below c = c.started.ensures.below (length c.target_of.new.walk.nodes) c.in_ok-found.ensures.below
