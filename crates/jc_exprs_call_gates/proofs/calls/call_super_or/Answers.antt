use Rattle.std.proofs.Common.{◌≡◌, ap, map, subst, ◌∙◌}
use Rattle.std.specs.Prelude.{IfOk, OnOk}
use Rattle.jc_exprs_nodes_spec.specs.Told.{Ran}
use Rattle.jc_exprs_nodes_spec.specs.Typeds.{Typed}
use Rattle.jc_exprs_nodes.specs.Walks.{has, known, now}
use Rattle.jc_exprs_gathering.specs.Gathered.{where_all}
use Rattle.jc_exprs_spec.specs.Calls.{call_super}
use Rattle.jc_exprs_worlds.specs.Scenes.{world_of}
use Rattle.jc_exprs_call_gates.proofs.Wanting.{asked_whole, wanted_below}
use Rattle.jc_exprs_call_gates.proofs.calls.call_super_or.Goals as goal

pub call_super-requires-clause-target : goal.call_super-requires-clause-target
call_super-requires-clause-target c = wanted_below c.args.walk.now.nodes c.args.named.now.target c.requires.target

pub returns-clause-state : goal.returns-clause-state
returns-clause-state c =
    let W = world_of c.args.methods.now.scene.now in
    let n = c.args.named.now in
    let ns = c.args.walk.now.nodes in
    let ts = map (known ns) n.args.now in
    let h = c.are_typed.ensures.value ∙ ap (λ x. where_all x ts) c.if-not-are_typed.false in
    let z = asked_whole ns n.target n.args.now (now c.args.walk.now) (λ o us. call_super W n.place n.name.now c.args.explicit.now o us) ts h in
    subst (λ (r : Ran Typed). OnOk c.call_super.result (r.state ≡ now c.call_super.new.walk)) z c.call_super.ensures.state

pub returns-clause-value : goal.returns-clause-value
returns-clause-value c =
    let W = world_of c.args.methods.now.scene.now in
    let n = c.args.named.now in
    let ns = c.args.walk.now.nodes in
    let ts = map (known ns) n.args.now in
    let h = c.are_typed.ensures.value ∙ ap (λ x. where_all x ts) c.if-not-are_typed.false in
    let z = asked_whole ns n.target n.args.now (now c.args.walk.now) (λ o us. call_super W n.place n.name.now c.args.explicit.now o us) ts h in
    subst (λ (r : Ran Typed). IfOk c.call_super.result (λ at. r.has ≡ has c.call_super.new.walk.nodes at)) z c.call_super.ensures.value
