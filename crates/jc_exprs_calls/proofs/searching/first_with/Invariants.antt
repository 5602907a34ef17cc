use Rattle.std.proofs.Common.{◌≡◌, length}
use Rattle.jc_exprs_calls.specs.Calling.{first_with}
use Rattle.jc_exprs_calls.proofs.searching.first_with.Given as goal

abbrev pub invariant-loop-rest : goal.invariant-loop-rest
invariant-loop-rest l = first_with l.methods.scene.now.table.now l.name l.rest ≡ first_with l.methods.scene.now.table.now l.name l.fn.classes

abbrev pub decreases-loop-rest : goal.decreases-loop-rest
decreases-loop-rest l = length l.rest
