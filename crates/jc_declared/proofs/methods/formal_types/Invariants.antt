use Rattle.std.proofs.Common.{◌≡◌, [], drop, map}
use Rattle.jc_declares.specs.Making.{types, written_formal}
use Rattle.jc_looking.specs.Members.{known_in}
use Rattle.jc_written.specs.At.{reading_at}
use Rattle.jc_declared.specs.Types.{with_types}
use Rattle.jc_declared.proofs.methods.formal_types.Given as goal

abbrev pub invariant-loop-formal : goal.invariant-loop-formal
invariant-loop-formal l =
    let H = l.scene.declared.heads.now in let K = known_in l.scene.known.now in
    with_types l.list (map (written_formal H K l.file (reading_at H K l.reading)) (drop l.formal-index l.formals)) ≡ with_types (types []) (map (written_formal H K l.file (reading_at H K l.reading)) l.formals)
