use Rattle.std.proofs.Common.{◌≡◌, ap, map, subst, ◌∙◌}
use Rattle.std.specs.Prelude.{IfOk, OnOk}
use Rattle.jc_exprs_nodes_spec.specs.Told.{Ran}
use Rattle.jc_exprs_nodes_spec.specs.Typeds.{Typed}
use Rattle.jc_exprs_nodes.specs.Walks.{has, known, now}
use Rattle.jc_exprs_gathering.specs.Gathered.{where_all}
use Rattle.jc_exprs_spec.specs.Calls.{call_on}
use Rattle.jc_exprs_worlds.specs.Scenes.{world_of}
use Rattle.jc_exprs_calls.specs.Placing.{before_of, has_before}
use Rattle.jc_exprs_call_gates.proofs.Wanting.{behind_whole, wanted_below}
use Rattle.jc_exprs_call_gates.proofs.calls.call_on_or.Goals as goal

pub call_on-requires-clause-target : goal.call_on-requires-clause-target
call_on-requires-clause-target c = wanted_below c.args.walk.now.nodes c.args.named.now.target c.requires.target

pub returns-else-not-are_typed-clause-state : goal.returns-else-not-are_typed-clause-state
returns-else-not-are_typed-clause-state c =
    let W = world_of c.args.methods.now.scene.now in
    let n = c.args.named.now in
    let ns = c.args.walk.now.nodes in
    let ts = map (known ns) n.args.now in
    let h = c.are_typed.ensures.value ∙ ap (λ x. where_all x ts) c.if-not-are_typed.false in
    let b = c.in-Some.before in
    let z = behind_whole ns n.target n.args.now (now c.args.walk.now) (λ o d us. call_on W n.place n.name.now c.args.explicit.now o d us) (has_before ns c.args.before) (before_of ns b) ts (ap (has_before ns) c.in-Some.is) h in
    subst (λ (r : Ran Typed). OnOk c.call_on.result (r.state ≡ now c.call_on.new.walk)) z c.call_on.ensures.state

pub returns-else-not-are_typed-clause-value : goal.returns-else-not-are_typed-clause-value
returns-else-not-are_typed-clause-value c =
    let W = world_of c.args.methods.now.scene.now in
    let n = c.args.named.now in
    let ns = c.args.walk.now.nodes in
    let ts = map (known ns) n.args.now in
    let h = c.are_typed.ensures.value ∙ ap (λ x. where_all x ts) c.if-not-are_typed.false in
    let b = c.in-Some.before in
    let z = behind_whole ns n.target n.args.now (now c.args.walk.now) (λ o d us. call_on W n.place n.name.now c.args.explicit.now o d us) (has_before ns c.args.before) (before_of ns b) ts (ap (has_before ns) c.in-Some.is) h in
    subst (λ (r : Ran Typed). IfOk c.call_on.result (λ at. r.has ≡ has c.call_on.new.walk.nodes at)) z c.call_on.ensures.value
