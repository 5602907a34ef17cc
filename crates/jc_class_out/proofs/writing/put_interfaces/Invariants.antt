use Rattle.std.proofs.Common.{◌≡◌, ◌++◌, take}
use Rattle.std.specs.List.{flat_map}
use Rattle.jc_class_out.specs.Spelling.{knowns, spell_interface}
use Rattle.jc_class_out.proofs.writing.put_interfaces.Given as goal

abbrev pub invariant-loop-name : goal.invariant-loop-name
invariant-loop-name l = l.out.items ≡ l.initial.out.items ++ flat_map (spell_interface (knowns l.pool.keys)) (take l.name-index l.names)
