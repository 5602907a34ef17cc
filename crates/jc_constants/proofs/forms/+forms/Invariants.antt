use Rattle.std.proofs.Common.{◌≡◌, drop, map}
use Rattle.jc_declares.specs.Constants.{all_parts}
use Rattle.jc_looking.specs.Members.{known_in}
use Rattle.jc_written.specs.At.{reading_at}
use Rattle.jc_constants.specs.Forms.{behind, formed_operand}
use Rattle.jc_constants.proofs.forms.+forms.Given as goal

abbrev pub invariant-parts-loop-operand : goal.invariant-parts-loop-operand
invariant-parts-loop-operand l =
    let H = l.scene.declared.heads.now in let K = known_in l.scene.known.now in
    behind l.list (all_parts (map (formed_operand H K l.file (reading_at H K l.reading)) (drop l.operand-index l.operands)))
    ≡ all_parts (map (formed_operand H K l.file (reading_at H K l.reading)) l.operands)
