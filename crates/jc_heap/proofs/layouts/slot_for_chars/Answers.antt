use Rattle.std.proofs.Common.{List, Bool, position, reverse, ap, ◌∙◌}
use Rattle.jc_jvm.specs.Classes.{line_of}
use Rattle.jc_heap.proofs.FieldLayouts.{marks_flat}
use Rattle.jc_heap.proofs.layouts.slot_for_chars.Goals as goal

pub returns : goal.returns
returns c =
    c.first_mark.ensures
    ∙ ap (λ (marks : List Bool). position (λ (b : Bool). b) marks) (c.slice.ensures ∙ c.in_ok-marks.ensures)
    ∙ marks_flat c.args.classes.now (reverse (line_of c.args.classes.now c.args.class))
