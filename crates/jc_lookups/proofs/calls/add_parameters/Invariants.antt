use Rattle.std.proofs.Common.{◌≡◌, ◌-◌, ◌++◌, length, map}
use Rattle.jc_class_out.specs.Descriptors.{items_on}
use Rattle.jc_jvm.specs.Types.{sort_of_item, parameter_sorts}
use Rattle.jc_lookups.proofs.calls.add_parameters.Given as goal

-- what is still to come, behind what was found
abbrev pub invariant-loop-counted : goal.invariant-loop-counted
invariant-loop-counted l = l.found ++ map sort_of_item (items_on (length l.descriptor - l.counted) l.rest) ≡ l.initial.found ++ parameter_sorts l.descriptor
