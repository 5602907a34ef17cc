use Rattle.std.proofs.Common.{◌≡◌, ◌++◌, drop}
use Rattle.jc_declares.specs.Making.{numbered, method_decl}
use Rattle.jc_looking.specs.Members.{known_in}
use Rattle.jc_declared.proofs.methods.push_methods.Given as goal

abbrev pub invariant-loop-number : goal.invariant-loop-number
invariant-loop-number l =
    let H = l.scene.declared.heads.now in let K = known_in l.scene.known.now in
    l.list ++ numbered (method_decl H K) l.number (drop l.number l.sites) ≡ l.initial.list ++ numbered (method_decl H K) 0 l.sites
