use Rattle.std.proofs.Common.{ℕ, List, ap, ◌∙◌}
use Rattle.jc_declares.specs.Making.{class_decl}
use Rattle.jc_declares.specs.Sites as site
use Rattle.jc_looking.specs.Members.{known_in}
use Rattle.jc_table.specs.Filling.{class_in}
use Rattle.jc_table.proofs.classes.class_decl.Goals as goal

pub returns : goal.returns
returns c =
    let H = c.args.scene.now.declared.heads.now in let K = known_in c.args.scene.now.known.now in
    c.in_ok-class.ensures
    ∙ ap (λ (round : List ℕ). class_in H K c.args.number c.site.inside.file c.site.inside.scope c.site.inside.of_interface round c.site.inside.head.now) c.slice.ensures
    ∙ ap (λ (s : site.ClassSite). class_decl H K c.args.number s) c.site.view_is
