use Rattle.std.proofs.Common.{ℕ, ap, ◌∙◌}
use Rattle.jc_declares.specs.Making.{owner_reading, place_at}
use Rattle.jc_declares.specs.Writing.{Reading}
use Rattle.jc_looking.specs.Members.{known_in}
use Rattle.jc_declared.specs.Parts.{variable_in}
use Rattle.jc_declared.proofs.variables.variable_decl.Goals as goal

pub returns : goal.returns
returns c =
    λ k.
    let H = c.args.scene.now.declared.heads.now in let K = known_in c.args.scene.now.known.now in
    c.in_ok-variable.ensures
    ∙ ap (λ (r : Reading). variable_in H K r (place_at c.owner_file-file.result c.args.param.now.name.at) c.args.owner c.args.param.now) (c.owner_reading-reading.ensures K)
    ∙ ap (λ (f : ℕ). variable_in H K (owner_reading H K c.args.owner) (place_at f c.args.param.now.name.at) c.args.owner c.args.param.now) c.owner_file-file.ensures
