use Rattle.std.proofs.Common.{◌≡◌, length}
use Rattle.jc_stmts_spec.specs.Typed.{leads}
use Rattle.jc_stmts.specs.Targets.{next_of}
use Rattle.jc_stmts.proofs.calls.leads.Given as goal

abbrev pub invariant-loop-at : goal.invariant-loop-at
invariant-loop-at l = leads (next_of l.calls) l.left l.at l.to ≡ leads (next_of l.calls) (length l.calls.calls.now) l.fn.from l.to

abbrev pub decreases-loop-at : goal.decreases-loop-at
decreases-loop-at l = l.left
