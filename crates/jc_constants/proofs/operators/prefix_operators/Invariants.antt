use Rattle.std.proofs.Common.{◌≡◌, ◌∷◌, drop}
use Rattle.jc_declares.specs.Constants.{prefix_operators}
use Rattle.jc_constants.specs.Forms.{behind}
use Rattle.jc_constants.proofs.operators.prefix_operators.Given as goal

abbrev pub invariant-loop-next : goal.invariant-loop-next
invariant-loop-next l = behind l.ops (prefix_operators (drop l.next-index l.more)) ≡ prefix_operators (l.fn.first ∷ l.more)
