use Rattle.std.proofs.Common.{◌≡◌, ◌++◌}
use Rattle.std.specs.List.{flat_map}
use Rattle.jc_class_out.specs.Spelling.{knowns, spell_entry}
use Rattle.jc_class_out.proofs.pool.put_pool.Given as goal

abbrev pub invariant-loop-constant : goal.invariant-loop-constant
invariant-loop-constant l =
    l.out.items ++ flat_map (spell_entry (knowns l.pool.keys)) (knowns l.constant-iterator) ≡ l.initial.out.items ++ flat_map (spell_entry (knowns l.pool.keys)) (knowns l.pool.keys)
