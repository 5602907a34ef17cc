use Rattle.std.proofs.Common.{◌≡◌, ◌++◌, drop, length}
use Rattle.jc_class_out.specs.Spelling.{knowns, spell_code}
use Rattle.jc_class_out.proofs.writing.put_code.Given as goal

abbrev pub invariant-loop-ins : goal.invariant-loop-ins
invariant-loop-ins l = l.out.items ++ spell_code (knowns l.pool.keys) (length l.out.items) (drop l.ins-index l.list) ≡ spell_code (knowns l.pool.keys) 0 l.list
