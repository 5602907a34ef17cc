use Rattle.std.proofs.Common.{◌≡◌, sym, subst, IfOk, OnOk}
use Rattle.jc_exprs_parts_spec.specs.Names.{value_member}
use Rattle.jc_exprs_nodes_spec.specs.Told.{Ran, Run, fine, onward}
use Rattle.jc_exprs_nodes.specs.Walks.{known, now}
use Rattle.jc_exprs_parts_spec.specs.Names.{Located, Meaning, Value, value_of}
use Rattle.jc_exprs_worlds.specs.Scenes.{world_of}
use Rattle.jc_exprs_located.specs.Locations.{has_located}
use Rattle.jc_exprs_meanings.specs.Meant.{has_meaning}
use Rattle.jc_exprs_names.proofs.Walked.{behind}
use Rattle.jc_exprs_names.proofs.behind.member_meant.Goals as goal

pub returns-clause-state : goal.returns-clause-state
returns-clause-state c =
    let s = now c.args.walk.now in
    let W = world_of c.args.scene.now in
    let m : Run Located = value_member W c.args.name.now (known c.args.walk.now.nodes c.args.value.at) in
    let o = has_located c.value_member.new.walk.nodes c.in_ok-found.found in
    subst (λ (r : Ran Meaning). OnOk c.meaning_or.result (r.state ≡ now c.meaning_or.new.walk)) (sym (behind (λ l. onward (value_of W l) (λ t. fine (Value t))) m s (now c.value_member.new.walk) o c.in_ok-found.ensures.state c.in_ok-found.ensures.value))
    c.meaning_or.ensures.state

pub returns-clause-value : goal.returns-clause-value
returns-clause-value c =
    let s = now c.args.walk.now in
    let W = world_of c.args.scene.now in
    let m : Run Located = value_member W c.args.name.now (known c.args.walk.now.nodes c.args.value.at) in
    let o = has_located c.value_member.new.walk.nodes c.in_ok-found.found in
    subst (λ (r : Ran Meaning). IfOk c.meaning_or.result (λ x. r.has ≡ has_meaning c.meaning_or.new.walk.nodes x)) (sym (behind (λ l. onward (value_of W l) (λ t. fine (Value t))) m s (now c.value_member.new.walk) o c.in_ok-found.ensures.state c.in_ok-found.ensures.value))
    c.meaning_or.ensures.value
