use Rattle.std.proofs.Common.{◌≡◌, ◌++◌, drop}
use Rattle.jc_declares.specs.Making.{numbered, scope_decl}
use Rattle.jc_looking.specs.Members.{known_in}
use Rattle.jc_scopes.proofs.scopes.push_scopes.Given as goal

abbrev pub invariant-loop-head : goal.invariant-loop-head
invariant-loop-head l =
    let H = l.scene.declared.heads.now in let K = known_in l.scene.known.now in
    l.list ++ numbered (scope_decl H K) l.head-index (drop l.head-index l.head-items) ≡ l.initial.list ++ numbered (scope_decl H K) 0 l.head-items
