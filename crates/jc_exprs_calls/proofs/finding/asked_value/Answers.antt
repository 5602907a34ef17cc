use Rattle.std.proofs.Common.{Option, ap, subst, ◌∙◌}
use Rattle.jc_exprs_nodes_spec.specs.Told.{Ran}
use Rattle.jc_exprs_nodes.specs.Walks.{known, now}
use Rattle.jc_exprs_settling.specs.declared.asked.SettledPart.{SettledPart}
use Rattle.jc_exprs_settling.specs.Settlings.{IsSettled, has_settled, settled_of}
use Rattle.jc_exprs_spec.specs.Calls.{Before}
use Rattle.jc_exprs_worlds.specs.Scenes.{world_of}
use Rattle.jc_exprs_calls.proofs.Asks.{asked_none, asked_some}
use Rattle.jc_exprs_calls.proofs.finding.asked_value.Goals as goal

pub returns-in-None-clause-state : goal.returns-in-None-clause-state
unfolding world_of
returns-in-None-clause-state c =
    let W = world_of c.args.scene.now in
    let v = known c.args.walk.now.nodes c.args.part.at in
    let ns = c.settled.new.walk.nodes in
    let z = asked_none W v (now c.args.walk.now) (now c.settled.new.walk) c.in_ok-settled.ensures.state (c.in_ok-settled.ensures.value ∙ ap (has_settled ns) c.in-None.is) in
    ap (λ (x : Ran Before). x.state) z

pub returns-in-None-clause-value : goal.returns-in-None-clause-value
unfolding world_of
returns-in-None-clause-value c =
    let W = world_of c.args.scene.now in
    let v = known c.args.walk.now.nodes c.args.part.at in
    let ns = c.settled.new.walk.nodes in
    let z = asked_none W v (now c.args.walk.now) (now c.settled.new.walk) c.in_ok-settled.ensures.state (c.in_ok-settled.ensures.value ∙ ap (has_settled ns) c.in-None.is) in
    ap (λ (x : Ran Before). x.has) z

pub returns-in-Some-clause-state : goal.returns-in-Some-clause-state
unfolding world_of
returns-in-Some-clause-state c =
    let W = world_of c.args.scene.now in
    let v = known c.args.walk.now.nodes c.args.part.at in
    let ns = c.settled.new.walk.nodes in
    let z = asked_some W v (now c.args.walk.now) (now c.settled.new.walk) (settled_of ns c.in-Some.value) c.in_ok-settled.ensures.state (c.in_ok-settled.ensures.value ∙ ap (has_settled ns) c.in-Some.is) in
    ap (λ (x : Ran Before). x.state) z

pub returns-in-Some-clause-value : goal.returns-in-Some-clause-value
unfolding world_of
returns-in-Some-clause-value c =
    let W = world_of c.args.scene.now in
    let v = known c.args.walk.now.nodes c.args.part.at in
    let ns = c.settled.new.walk.nodes in
    let z = asked_some W v (now c.args.walk.now) (now c.settled.new.walk) (settled_of ns c.in-Some.value) c.in_ok-settled.ensures.state (c.in_ok-settled.ensures.value ∙ ap (has_settled ns) c.in-Some.is) in
    ap (λ (x : Ran Before). x.has) z

pub returns-in-Some-clause-within : goal.returns-in-Some-clause-within
returns-in-Some-clause-within c = subst (λ (o : Option SettledPart). IsSettled c.settled.new.walk.nodes o) c.in-Some.is c.in_ok-settled.ensures.within
