use Rattle.std.proofs.Common.{ap, ◌∙◌}
use Rattle.jc_exprs_nodes_spec.specs.Told.{Ran, Run, fine}
use Rattle.jc_exprs_nodes_spec.specs.Typeds.{Typed}
use Rattle.jc_exprs_nodes.specs.Walks.{has, now}
use Rattle.jc_exprs_parts_spec.specs.Names.{Meaning, Value, value_of}
use Rattle.jc_exprs_worlds.specs.Scenes.{world_of}
use Rattle.jc_exprs_located.specs.Locations.{located_of}
use Rattle.jc_exprs_names.proofs.Walked.{behind}
use Rattle.jc_exprs_names.proofs.reading.meaning_of_value.Goals as goal

pub returns-clause-state : goal.returns-clause-state
returns-clause-state c =
    let s = now c.args.walk.now in
    let W = world_of c.args.scene.now in
    let m : Run Typed = value_of W (located_of c.args.walk.now.nodes c.args.located) in
    let o = has c.value_of.new.walk.nodes c.in_ok-at.at in
    ap (λ (r : Ran Meaning). r.state) (behind (λ t. fine (Value t)) m s (now c.value_of.new.walk) o c.in_ok-at.ensures.state c.in_ok-at.ensures.value) ∙ c.value_meant.ensures.state

pub returns-clause-value : goal.returns-clause-value
returns-clause-value c =
    let s = now c.args.walk.now in
    let W = world_of c.args.scene.now in
    let m : Run Typed = value_of W (located_of c.args.walk.now.nodes c.args.located) in
    let o = has c.value_of.new.walk.nodes c.in_ok-at.at in
    ap (λ (r : Ran Meaning). r.has) (behind (λ t. fine (Value t)) m s (now c.value_of.new.walk) o c.in_ok-at.ensures.state c.in_ok-at.ensures.value) ∙ c.value_meant.ensures.value
