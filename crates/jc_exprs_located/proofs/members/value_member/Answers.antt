use Rattle.std.proofs.Common.{◌≡◌, sym, subst, IfOk, OnOk}
use Rattle.jc_exprs_nodes_spec.specs.Told.{Ran}
use Rattle.jc_exprs_nodes.specs.Walks.{known, now}
use Rattle.jc_exprs_parts_spec.specs.Names.{Located}
use Rattle.jc_exprs_worlds.specs.Scenes.{world_of}
use Rattle.jc_exprs_located.specs.Locations.{has_located}
use Rattle.jc_exprs_settling.specs.Settlings.{has_settled}
use Rattle.jc_exprs_worlds.proofs.Told.{table_told}
use Rattle.jc_exprs_located.proofs.Walked.{member_gated}
use Rattle.jc_exprs_located.proofs.members.value_member.Goals as goal

pub returns-clause-state : goal.returns-clause-state
returns-clause-state c =
    let s = now c.args.walk.now in
    let W = world_of c.args.scene.now in
    let v = known c.args.walk.now.nodes c.args.value.at in
    subst (λ (r : Ran Located). OnOk c.member_of_settled.result (r.state ≡ now c.member_of_settled.new.walk)) (sym (member_gated W c.args.scene.now.table.now c.args.name.now v c.args.value.start s (now c.settled.new.walk) (has_settled c.settled.new.walk.nodes c.in_ok-asked.asked) (table_told c.args.scene.now) c.requires.start c.in_ok-asked.ensures.state c.in_ok-asked.ensures.value))
    c.member_of_settled.ensures.state

pub returns-clause-value : goal.returns-clause-value
returns-clause-value c =
    let s = now c.args.walk.now in
    let W = world_of c.args.scene.now in
    let v = known c.args.walk.now.nodes c.args.value.at in
    subst (λ (r : Ran Located). IfOk c.member_of_settled.result (λ l. r.has ≡ has_located c.member_of_settled.new.walk.nodes l)) (sym (member_gated W c.args.scene.now.table.now c.args.name.now v c.args.value.start s (now c.settled.new.walk) (has_settled c.settled.new.walk.nodes c.in_ok-asked.asked) (table_told c.args.scene.now) c.requires.start c.in_ok-asked.ensures.state c.in_ok-asked.ensures.value))
    c.member_of_settled.ensures.value
