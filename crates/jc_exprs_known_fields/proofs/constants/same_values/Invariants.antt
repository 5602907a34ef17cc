use Rattle.std.proofs.Common.{◌≡◌, take}
use Rattle.jc_exprs_known_fields.proofs.constants.same_values.Given as goal

abbrev pub invariant-loop-at : goal.invariant-loop-at
invariant-loop-at l = take l.at l.left ≡ take l.at l.right
