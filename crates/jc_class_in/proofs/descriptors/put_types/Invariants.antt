use Rattle.std.proofs.Common.{◌≡◌, ◌-◌, ◌++◌}
use Rattle.jc_class_out.specs.Descriptors.{items_on}
use Rattle.jc_class_in.proofs.descriptors.put_types.Given as goal

abbrev pub invariant-loop : goal.invariant-loop
invariant-loop l = l.list ++ items_on (l.most - l.counter) l.rest ≡ l.fn.list ++ items_on l.most l.units
