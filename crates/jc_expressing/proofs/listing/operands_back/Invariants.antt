use Rattle.std.proofs.Common.{◌≡◌}
use Rattle.jc_typed.specs.Parts.{operands_of}
use Rattle.jc_meaning.specs.Programs.{operand_list, operands_before}
use Rattle.jc_pending.specs.Level.{operands_back}
use Rattle.jc_expressing.proofs.listing.operands_back.Given as goal

abbrev pub invariant-loop-before : goal.invariant-loop-before
invariant-loop-before l = operands_before (operands_of l.nodes l.list) (operands_back l.nodes l.out) ≡ operand_list (operands_of l.nodes l.fn.at)

abbrev pub decreases-loop-before : goal.decreases-loop-before
decreases-loop-before l = l.list
