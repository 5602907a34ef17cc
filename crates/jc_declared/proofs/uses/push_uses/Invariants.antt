use Rattle.std.proofs.Common.{◌≡◌, ◌++◌, drop}
use Rattle.jc_declares.specs.Making.{use_decls}
use Rattle.jc_looking.specs.Members.{known_in}
use Rattle.jc_declared.proofs.uses.push_uses.Given as goal

abbrev pub invariant-loop-site : goal.invariant-loop-site
invariant-loop-site l =
    let H = l.scene.declared.heads.now in let K = known_in l.scene.known.now in
    l.list ++ use_decls H K (drop l.site-index l.sites) ≡ l.initial.list ++ use_decls H K l.sites
