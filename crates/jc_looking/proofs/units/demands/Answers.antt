use Rattle.std.proofs.Common.{ap, map, ◌∙◌}
use Rattle.jc_imports.specs.Founds.{found_of}
use Rattle.jc_looking.proofs.Imports.{demands_in, demands_listed}
use Rattle.jc_looking.proofs.units.demands.Goals as goal

pub returns-in-Some : goal.returns-in-Some
returns-in-Some c =
    ap (map found_of) c.slice.ensures ∙ ap demands_in c.in-Some.ensures.value
    ∙ demands_listed c.args.scene.now.declared.heads.now c.args.scene.now.imports.now c.args.unit c.requires.imports

pub returns-in-None : goal.returns-in-None
returns-in-None c =
    ap demands_in c.in-None.ensures.value
    ∙ demands_listed c.args.scene.now.declared.heads.now c.args.scene.now.imports.now c.args.unit c.requires.imports
