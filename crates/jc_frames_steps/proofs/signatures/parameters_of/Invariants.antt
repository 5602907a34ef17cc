use Rattle.std.proofs.Common.{◌≡◌, ◌-◌, ◌++◌, length, map}
use Rattle.jc_class_out.specs.Descriptors.{items_on, parameter_items}
use Rattle.jc_frames_types.specs.Items.{item_of}
use Rattle.jc_frames_steps.proofs.signatures.parameters_of.Given as goal

-- the types so far, and those of what is left
abbrev pub invariant-loop : goal.invariant-loop
invariant-loop l = map item_of l.units.items ++ items_on (length l.descriptor - l.counter) l.rest ≡ parameter_items l.descriptor
