use Rattle.std.proofs.Common.{◌≡◌, take, map}
use Rattle.jc_declares.specs.Making.{class_id}
use Rattle.jc_table.proofs.classes.class_ids.Given as goal

abbrev pub invariant-loop-number : goal.invariant-loop-number
invariant-loop-number l = l.ids ≡ map class_id (take l.number-index l.numbers)
