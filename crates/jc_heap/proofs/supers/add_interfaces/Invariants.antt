use Rattle.std.proofs.Common.{◌≡◌, ◌++◌, take}
use Rattle.std.specs.List.{filter_map}
use Rattle.jc_jvm.specs.Classes.{class_named}
use Rattle.jc_heap.proofs.supers.add_interfaces.Given as goal

abbrev pub invariant-loop-name : goal.invariant-loop-name
invariant-loop-name l = l.found ≡ l.initial.found ++ filter_map (class_named l.classes) (take l.name-index l.name-items)
