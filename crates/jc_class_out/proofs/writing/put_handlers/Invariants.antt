use Rattle.std.proofs.Common.{◌≡◌, ◌++◌, take}
use Rattle.std.specs.List.{flat_map}
use Rattle.jc_class_out.specs.Spelling.{knowns, spell_handler}
use Rattle.jc_class_out.proofs.writing.put_handlers.Given as goal

abbrev pub invariant-loop-handler : goal.invariant-loop-handler
invariant-loop-handler l = l.out.items ≡ l.initial.out.items ++ flat_map (spell_handler (knowns l.pool.keys)) (take l.handler-index l.handlers)
