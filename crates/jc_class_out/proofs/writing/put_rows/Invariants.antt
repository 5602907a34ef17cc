use Rattle.std.proofs.Common.{◌≡◌, ◌++◌, take}
use Rattle.std.specs.List.{flat_map}
use Rattle.jc_class_out.specs.Spelling.{knowns, spell_inner}
use Rattle.jc_class_out.proofs.writing.put_rows.Given as goal

abbrev pub invariant-loop-row : goal.invariant-loop-row
invariant-loop-row l = l.out.items ≡ l.initial.out.items ++ flat_map (spell_inner (knowns l.pool.keys)) (take l.row-index l.rows)
