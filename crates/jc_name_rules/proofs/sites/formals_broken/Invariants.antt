use Rattle.std.proofs.Common.{◌≡◌, drop}
use Rattle.jc_types.specs.Breaks.{least}
use Rattle.jc_declares.specs.Breaks.{in_file, formals_broken}
use Rattle.jc_looking.specs.Members.{known_in}
use Rattle.jc_written.specs.At.{reading_at}
use Rattle.jc_name_rules.proofs.sites.formals_broken.Given as goal

abbrev pub invariant-loop-formal : goal.invariant-loop-formal
invariant-loop-formal l =
    let H = l.scene.declared.heads.now in let K = known_in l.scene.known.now in
    least l.found (in_file l.file (formals_broken H K (reading_at H K l.reading) (drop l.formal-index l.formals))) ≡ least l.initial.found (in_file l.file (formals_broken H K (reading_at H K l.reading) l.formals))
