use Rattle.std.proofs.Common.{length}
use Rattle.jc_tree.specs.Heights.{expr_height}
use Rattle.jc_expr_laws.specs.PostReading.{changed, ops_run}
use Rattle.jc_parse_expr.specs.PrimeCode.{IsMeasured, changed_on}
use Rattle.jc_parse_expr.proofs.Grows.{Grows}
use Rattle.jc_parse_expr.proofs.primes.changes.Given as goal

abbrev pub invariant-signs : goal.invariant-signs
invariant-signs l =
    Grows changed (ops_run l.height) (changed_on l.height l.fn.first.value.tree l.fn.first.rest.now l.fn.first.left) l.value.value.tree l.value.left l.value.rest.now × IsMeasured expr_height l.value.value

abbrev pub decreases-signs : goal.decreases-signs
decreases-signs l = length l.value.rest.now
