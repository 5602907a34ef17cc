use Rattle.std.proofs.Common.{List, Bool, position, reverse, ap, ◌∙◌}
use Rattle.jc_jvm.specs.Classes.{line_of}
use Rattle.jc_lookups.proofs.SlotLines.{marks_flat}
use Rattle.jc_lookups.proofs.slots.slot_in.Goals as goal

pub returns : goal.returns
returns c =
    c.first_mark.ensures
    ∙ ap (λ (marks : List Bool). position (λ (b : Bool). b) marks) (c.slice.ensures ∙ c.in_ok-marks.ensures)
    ∙ marks_flat c.args.classes.now c.args.class c.args.name.now c.args.descriptor.now (reverse (line_of c.args.classes.now c.args.class))
