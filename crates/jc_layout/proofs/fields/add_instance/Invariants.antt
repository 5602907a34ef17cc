use Rattle.std.proofs.Common.{◌≡◌, ◌++◌, length}
use Rattle.jc_heaps.specs.Layout.{instance_only}
use Rattle.jc_layout.proofs.fields.add_instance.Given as goal

abbrev pub invariant-loop-rest : goal.invariant-loop-rest
invariant-loop-rest l = l.out ++ instance_only l.table l.rest ≡ l.fn.out ++ instance_only l.table l.fn.fields

abbrev pub decreases-loop-rest : goal.decreases-loop-rest
decreases-loop-rest l = length l.rest
