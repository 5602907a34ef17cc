use Rattle.std.proofs.Common.{◌≡◌, drop}
use Rattle.jc_types.specs.Breaks.{least}
use Rattle.jc_declares.specs.Breaks.{in_file}
use Rattle.jc_looking.specs.Members.{known_in}
use Rattle.jc_written.specs.At.{reading_at}
use Rattle.jc_written.specs.Trees.{args_rules, parts_rules}
use Rattle.jc_written.proofs.breaks.+breaks.Given as goal

abbrev pub invariant-parts_broken-loop-part : goal.invariant-parts_broken-loop-part
invariant-parts_broken-loop-part l =
    let H = l.scene.declared.heads.now in let K = known_in l.scene.known.now in
    least l.found (in_file l.file (parts_rules H K (reading_at H K l.reading) (drop l.part-index l.parts))) ≡ least l.initial.found (in_file l.file (parts_rules H K (reading_at H K l.reading) l.parts))

abbrev pub invariant-args_broken-loop-arg : goal.invariant-args_broken-loop-arg
invariant-args_broken-loop-arg l =
    let H = l.scene.declared.heads.now in let K = known_in l.scene.known.now in
    least l.found (in_file l.file (args_rules H K (reading_at H K l.reading) (drop l.arg-index l.args))) ≡ least l.initial.found (in_file l.file (args_rules H K (reading_at H K l.reading) l.args))
