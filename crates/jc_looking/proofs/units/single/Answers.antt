use Rattle.std.proofs.Common.{ap, ◌∙◌}
use Rattle.jc_looking.proofs.Imports.{single_in, single_named}
use Rattle.jc_looking.proofs.units.single.Goals as goal

pub returns-in-Some : goal.returns-in-Some
returns-in-Some c =
    c.find.ensures ∙ ap (single_in c.args.name.now) c.in-Some.ensures.value
    ∙ single_named c.args.scene.now.declared.heads.now c.args.scene.now.imports.now c.args.unit c.args.name.now c.requires.imports

pub returns-in-None : goal.returns-in-None
returns-in-None c =
    ap (single_in c.args.name.now) c.in-None.ensures.value
    ∙ single_named c.args.scene.now.declared.heads.now c.args.scene.now.imports.now c.args.unit c.args.name.now c.requires.imports
