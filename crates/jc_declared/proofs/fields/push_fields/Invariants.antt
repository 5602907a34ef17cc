use Rattle.std.proofs.Common.{◌≡◌, ◌++◌, drop}
use Rattle.jc_declares.specs.Making.{numbered, field_decl}
use Rattle.jc_looking.specs.Members.{known_in}
use Rattle.jc_declared.proofs.fields.push_fields.Given as goal

abbrev pub invariant-loop-site : goal.invariant-loop-site
invariant-loop-site l =
    let H = l.scene.declared.heads.now in let K = known_in l.scene.known.now in
    l.list ++ numbered (field_decl H K) l.site-index (drop l.site-index l.sites) ≡ l.initial.list ++ numbered (field_decl H K) 0 l.sites
