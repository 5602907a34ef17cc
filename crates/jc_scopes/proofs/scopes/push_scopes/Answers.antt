use Rattle.std.proofs.Common.{drop-cons, ◌∙◌}
use Rattle.jc_declares.specs.Making.{scope_decl}
use Rattle.jc_looking.specs.Members.{known_in}
use Rattle.jc_scopes.proofs.Turned.{numbered_turn}
use Rattle.jc_scopes.proofs.scopes.push_scopes.Goals as goal

pub loop-head-preserved : goal.loop-head-preserved
loop-head-preserved c =
    let H = c.args.scene.now.declared.heads.now in let K = known_in c.args.scene.now.known.now in
    numbered_turn (scope_decl H K) c.loop-head.list c.push_scope.new.list c.slice-head-items.result.now c.loop-head.head-index _ (drop-cons c.slice-head-items.result.now c.loop-head.head-index _ c.loop-head-test.true)
    (c.in_ok-push_scope.ensures c.loop-head.head-index)
    ∙ c.loop-head.invariant
