use Rattle.std.proofs.Common.{◌≡◌, sym, subst, IfOk, OnOk}
use Rattle.jc_exprs_nodes_spec.specs.Told.{Ran, fine, onward}
use Rattle.jc_exprs_nodes.specs.Walks.{now}
use Rattle.jc_exprs_locals.specs.Scoped.{local_of}
use Rattle.jc_exprs_parts_spec.specs.Names.{AtLocal, Meaning, Value, value_of}
use Rattle.jc_exprs_worlds.specs.Scenes.{world_of}
use Rattle.jc_exprs_meanings.specs.Meant.{has_meaning}
use Rattle.jc_exprs_names.proofs.Walked.{behind_fine}
use Rattle.jc_exprs_names.proofs.simple.local_meant.Goals as goal

pub returns-clause-state : goal.returns-clause-state
returns-clause-state c =
    let s = now c.args.walk.now in
    let W = world_of c.args.scene.now in
    subst (λ (r : Ran Meaning). OnOk c.meaning_of_value.result (r.state ≡ now c.meaning_of_value.new.walk)) (sym (behind_fine (λ l. onward (value_of W l) (λ t. fine (Value t))) (AtLocal c.args.place (local_of c.args.local.now)) s))
    c.meaning_of_value.ensures.state

pub returns-clause-value : goal.returns-clause-value
returns-clause-value c =
    let s = now c.args.walk.now in
    let W = world_of c.args.scene.now in
    subst (λ (r : Ran Meaning). IfOk c.meaning_of_value.result (λ x. r.has ≡ has_meaning c.meaning_of_value.new.walk.nodes x)) (sym (behind_fine (λ l. onward (value_of W l) (λ t. fine (Value t))) (AtLocal c.args.place (local_of c.args.local.now)) s))
    c.meaning_of_value.ensures.value
