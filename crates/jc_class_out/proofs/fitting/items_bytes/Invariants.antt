use Rattle.std.proofs.Common.{◌≡◌, ◌+◌, ◌*◌, ◌≤◌, drop}
use Rattle.jc_class_out.specs.Fitting.{items_length}
use Rattle.jc_class_out.proofs.fitting.items_bytes.Given as goal

abbrev pub invariant-loop-item : goal.invariant-loop-item
invariant-loop-item l = record { sum : l.total + items_length (drop l.item-index l.items) ≡ items_length l.items; few : l.total ≤ 3 * l.item-index }
