use Rattle.std.proofs.Common.{◌≡◌, ◌++◌, drop}
use Rattle.jc_declares.specs.Making.{numbered, variable_decl}
use Rattle.jc_looking.specs.Members.{known_in}
use Rattle.jc_declared.proofs.variables.push_variables.Given as goal

abbrev pub invariant-loop-site : goal.invariant-loop-site
invariant-loop-site l =
    let H = l.scene.declared.heads.now in let K = known_in l.scene.known.now in
    l.list ++ numbered (variable_decl H K) l.site-index (drop l.site-index l.sites) ≡ l.initial.list ++ numbered (variable_decl H K) 0 l.sites
