use Rattle.std.proofs.Common.{◌≡◌, ◌++◌, drop}
use Rattle.jc_declares.specs.Sites.{uses_in_each, uses_of_expr, uses_of_operand, uses_of_init}
use Rattle.jc_sites.specs.Joining.{placed}
use Rattle.jc_sites.proofs.expressions.+expression_uses.Given as goal

abbrev pub invariant-push_exprs-loop-node : goal.invariant-push_exprs-loop-node
invariant-push_exprs-loop-node l = l.uses ++ placed l.spot (uses_in_each uses_of_expr (drop l.node-index l.nodes)) ≡ l.initial.uses ++ placed l.spot (uses_in_each uses_of_expr l.nodes)

abbrev pub invariant-push_operands-loop-node : goal.invariant-push_operands-loop-node
invariant-push_operands-loop-node l = l.uses ++ placed l.spot (uses_in_each uses_of_operand (drop l.node-index l.nodes)) ≡ l.initial.uses ++ placed l.spot (uses_in_each uses_of_operand l.nodes)

abbrev pub invariant-push_inits-loop-node : goal.invariant-push_inits-loop-node
invariant-push_inits-loop-node l = l.uses ++ placed l.spot (uses_in_each uses_of_init (drop l.node-index l.nodes)) ≡ l.initial.uses ++ placed l.spot (uses_in_each uses_of_init l.nodes)
